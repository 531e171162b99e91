use Rattle.std.proofs.Common.{[], None}
use Rattle.sopl_ast.specs.Constants.{numbers_of, numbers_in}
use Rattle.sopl_ast.specs.UnfoldEvents.{range_events}
use Rattle.sopl_ast.specs.Ranges.{range_of}
use Rattle.unfold_tables.specs.Tables.{shown}
use Rattle.unfold_constants.specs.Here.{known_in}
use Rattle.unfold_declarations.proofs.Values.{reached_so, worth_is}
use Rattle.unfold_declarations.proofs.calls.numbers_at.Goals as goal

pub returns : goal.returns
returns c =
    reached_so shown (numbers_in (known_in c.args.known.now) (range_of c.args.range.now)) _ _ (range_events (known_in c.args.known.now) None (range_of c.args.range.now)) c.range.result
    c.range.ensures.met
    (worth_is shown (numbers_of (known_in c.args.known.now) (range_of c.args.range.now)) [] c.range.result c.range.ensures.numbers)
