-- What contracts see of an objective, and of a whole model.
use Rattle.std.specs.Prelude.{option_map}
use Rattle.sopl_ast.specs.Whole.{GoalTree, ModelTree}
use Rattle.sopl_ast.specs.Constraints.{cons_trees}
use Rattle.sopl_ast.specs.declared.whole.Goal.{Goal}
use Rattle.sopl_ast.specs.declared.whole.Model.{Model}

-- an objective as plain data
abbrev pub goal_tree : Goal → GoalTree
goal_tree goal = record { direction = goal.direction; worst = goal.worst; expr = goal.expr }

-- a whole model as plain data
abbrev pub whole : Model → ModelTree
whole m = record { decls = m.decls; goal = option_map goal_tree m.goal; body = cons_trees m.body }
