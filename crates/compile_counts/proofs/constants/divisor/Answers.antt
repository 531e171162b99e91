use Rattle.std.proofs.Common.{◌≡◌, ◌≤◌, ◌^◌, pos, false, Some}
use Rattle.std.specs.Int.RustNames.{unsigned_abs}
use Rattle.std.specs.Ordering.{int_eq}
use Rattle.sopl_ast.specs.Constants.{value}
use Rattle.sopl_ast.specs.UnfoldEvents.{constant_place}
use Rattle.unfold_constants.specs.Here.{known_in}
use Rattle.compile_counts.proofs.Passed.{memory_only, handed_on, handed_further, divisor_part, divisor_nonzero}
use Rattle.compile_counts.proofs.constants.divisor.Goals as goal

pub memory_alone-requires : goal.memory_alone-requires
memory_alone-requires c =
    record {
      memory = memory_only (constant_place (known_in c.args.known.now) c.args.e.now) _ _ c.constant.result
          (divisor_part (known_in c.args.known.now) c.args.e.now c.requires.passes) c.new-count.ensures c.constant.ensures.met;
    }

pub returns-clause-value : goal.returns-clause-value
returns-clause-value c =
    handed_on (λ x. value (known_in c.args.known.now) c.args.e.now ≡ Some x) c.constant.result c.memory_alone.result c.memory_alone.ensures.same c.constant.ensures.value

pub returns-clause-nonzero : goal.returns-clause-nonzero
returns-clause-nonzero c =
    handed_on (λ x. int_eq x (pos 0) ≡ false) c.constant.result c.memory_alone.result c.memory_alone.ensures.same
    (handed_further (λ x. value (known_in c.args.known.now) c.args.e.now ≡ Some x) (λ x. int_eq x (pos 0) ≡ false)
    (λ x is. divisor_nonzero (known_in c.args.known.now) c.args.e.now x c.requires.passes is) c.constant.result c.constant.ensures.value)

pub returns-clause-small : goal.returns-clause-small
returns-clause-small c =
    handed_on (λ x. unsigned_abs x ≤ 2 ^ 40) c.constant.result c.memory_alone.result c.memory_alone.ensures.same c.constant.ensures.small
