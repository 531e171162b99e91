use Rattle.std.proofs.Common.{pos}
use Rattle.sopl_ast.specs.Constants.{value, value_or_zero}
use Rattle.sopl_ast.specs.UnfoldEvents.{constant_place}
use Rattle.unfold_constants.specs.Here.{known_in}
use Rattle.unfold_declarations.proofs.Values.{reached_so, worth_is}
use Rattle.unfold_declarations.proofs.calls.constant_at.Goals as goal

pub returns : goal.returns
returns c =
    reached_so (λ x. x) (value_or_zero (known_in c.args.known.now) c.args.e.now) _ _ (constant_place (known_in c.args.known.now) c.args.e.now) c.constant.result c.constant.ensures.met
    (worth_is (λ x. x) (value (known_in c.args.known.now) c.args.e.now) (pos 0) c.constant.result c.constant.ensures.value)
