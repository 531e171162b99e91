use Rattle.std.proofs.Common.{ap, option_map}
use Rattle.sopl_ast.specs.WholeModel.{goal_tree, whole}
use Rattle.sopl_compile.proofs.Objectives.{goal_direction, no_direction}
use Rattle.sopl_compile.proofs.start.direction_of.Goals as goal

pub returns-in-None : goal.returns-in-None
returns-in-None c = record { direction = no_direction (whole c.args.model.now) (ap (option_map goal_tree) c.in-None.is) }

pub returns-in-Some : goal.returns-in-Some
returns-in-Some c = record { direction = goal_direction (whole c.args.model.now) (goal_tree c.in-Some.goal) (ap (option_map goal_tree) c.in-Some.is) }
