use Rattle.std.proofs.Common.{ap, option_map}
use Rattle.sopl_ast.specs.WholeModel.{goal_tree, whole}
use Rattle.sopl_compile.proofs.Objectives.{goal_worst, no_worst}
use Rattle.sopl_compile.proofs.start.worst_of.Goals as goal

pub returns-in-None : goal.returns-in-None
returns-in-None c = record { worst = no_worst (whole c.args.model.now) (ap (option_map goal_tree) c.in-None.is) }

pub returns-in-Some : goal.returns-in-Some
returns-in-Some c = record { worst = goal_worst (whole c.args.model.now) (goal_tree c.in-Some.goal) (ap (option_map goal_tree) c.in-Some.is) }
