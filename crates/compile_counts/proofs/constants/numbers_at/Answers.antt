use Rattle.std.proofs.Common.{◌≡◌, Some}
use Rattle.sopl_ast.specs.Constants.{numbers_of, numbers_in}
use Rattle.sopl_ast.specs.UnfoldEvents.{range_events}
use Rattle.sopl_ast.specs.Ranges.{range_of}
use Rattle.unfold_constants.specs.Here.{known_in}
use Rattle.unfold_tables.specs.Tables.{shown}
use Rattle.compile_counts.proofs.Passed.{memory_only, handed_on, handed_further, numbers_shown}
use Rattle.compile_counts.proofs.constants.numbers_at.Goals as goal

pub memory_alone-requires : goal.memory_alone-requires
memory_alone-requires c =
    record {
      memory = memory_only (range_events (known_in c.args.known.now) c.args.whole (range_of c.args.range.now)) _ _ c.range_inside.result
          c.requires.passes c.new-count.ensures c.range_inside.ensures.met;
    }

pub returns : goal.returns
returns c =
    record {
      numbers = handed_on (λ numbers. shown numbers ≡ numbers_in (known_in c.args.known.now) (range_of c.args.range.now)) c.range_inside.result
          c.memory_alone.result c.memory_alone.ensures.same
          (handed_further (λ numbers. numbers_of (known_in c.args.known.now) (range_of c.args.range.now) ≡ Some (shown numbers))
          (λ numbers. shown numbers ≡ numbers_in (known_in c.args.known.now) (range_of c.args.range.now))
          (λ numbers is. numbers_shown (known_in c.args.known.now) (range_of c.args.range.now) (shown numbers) is) c.range_inside.result c.range_inside.ensures.numbers);
    }
