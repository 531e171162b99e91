use Rattle.std.proofs.Common.{None}
use Rattle.sopl_ast.specs.Constants.{value}
use Rattle.unfold_tables.specs.Tables.{ends_in}
use Rattle.unfold_constants.specs.Here.{known_in}
use Rattle.unfold_constants.proofs.EvaluationAgreement.{agree_ends}
use Rattle.unfold_constants.proofs.Outcomes.{walks_so, worth_so, lower_so, upper_so}
use Rattle.unfold_constants.proofs.constant_scope.ConstantScope.between.Goals as goal

pub returns-clause-met : goal.returns-clause-met
returns-clause-met c =
    walks_so ends_in _ _ c.ends.result (agree_ends c.args.lo.now c.args.hi.now (known_in c.args.self.now) None) c.ends.ensures

pub returns-clause-lower : goal.returns-clause-lower
returns-clause-lower c =
    lower_so (value (known_in c.args.self.now) c.args.lo.now) (value (known_in c.args.self.now) c.args.hi.now) c.ends.result
    (worth_so ends_in _ _ c.ends.result (agree_ends c.args.lo.now c.args.hi.now (known_in c.args.self.now) None) c.ends.ensures)

pub returns-clause-upper : goal.returns-clause-upper
returns-clause-upper c =
    upper_so (value (known_in c.args.self.now) c.args.lo.now) (value (known_in c.args.self.now) c.args.hi.now) c.ends.result
    (worth_so ends_in _ _ c.ends.result (agree_ends c.args.lo.now c.args.hi.now (known_in c.args.self.now) None) c.ends.ensures)
