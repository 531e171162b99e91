use Rattle.sopl_ast.specs.Ranges.{range_of}
use Rattle.unfold_tables.specs.Tables.{shown}
use Rattle.unfold_constants.specs.Here.{known_in}
use Rattle.unfold_constants.proofs.EvaluationAgreement.{agree_range}
use Rattle.unfold_constants.proofs.Outcomes.{walks_so, worth_so}
use Rattle.unfold_constants.proofs.constant_scope.ConstantScope.range_inside.Goals as goal

pub returns-clause-met : goal.returns-clause-met
returns-clause-met c =
    walks_so shown _ _ c.range_numbers.result (agree_range (range_of c.args.range.now) (known_in c.args.self.now) c.args.whole) c.range_numbers.ensures

pub returns-clause-numbers : goal.returns-clause-numbers
returns-clause-numbers c =
    worth_so shown _ _ c.range_numbers.result (agree_range (range_of c.args.range.now) (known_in c.args.self.now) c.args.whole) c.range_numbers.ensures
