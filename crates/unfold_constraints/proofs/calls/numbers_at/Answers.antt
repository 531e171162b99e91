use Rattle.std.proofs.Common.{None}
use Rattle.sopl_ast.specs.Ranges.{range_of}
use Rattle.unfold_constants.specs.Here.{known_in}
use Rattle.unfold_constants.proofs.EvaluationAgreement.{agree_range}
use Rattle.unfold_constraints.proofs.Answered.{answers_so}
use Rattle.unfold_constraints.proofs.calls.numbers_at.Goals as goal
use Rattle.unfold_tables.specs.Tables.{shown}

pub returns : goal.returns
returns c =
    answers_so shown _ _ c.range.result (agree_range (range_of c.args.range.now) (known_in c.args.known.now) None) c.range.ensures.met c.range.ensures.numbers
