-- The denominator of the values of a model's policies.
use Rattle.std.proofs.Common.{◌≡◌, ◌∙◌, ℤ, pos, Option, Some, None, option_map, if◌then◌else◌, refl, sym, ap}
use Rattle.std.specs.Option.{option_map_or}
use Rattle.sopl_ast.specs.Instances.{Objective}
use Rattle.sopl_ast.specs.Optimal.{denominator}
use Rattle.sopl_ast.specs.Scenarios.{total_weight}
use Rattle.sopl_ast.specs.Unfolding.{objective_of, problem_of}
use Rattle.sopl_ast.specs.Whole.{GoalTree, ModelTree}

module _ (model : ModelTree) where
  objective_is : (problem_of model).objective ≡ option_map objective_of model.goal
  unfolding problem_of
  objective_is = refl

  -- what the denominator is by an objective
  abbrev pub by_objective : Option Objective → ℤ
  by_objective x = option_map_or (λ (o : Objective). if o.worst then pos 1 else total_weight (problem_of model).stochastics) x (pos 1)

  pub no_goal : model.goal ≡ None → pos 1 ≡ denominator (problem_of model)
  no_goal none = sym (ap by_objective (objective_is ∙ ap (option_map objective_of) none))

  pub some_goal : (goal : GoalTree) → model.goal ≡ Some goal → (total over : ℤ) → total ≡ total_weight (problem_of model).stochastics
      → over ≡ (if goal.worst then pos 1 else total) → over ≡ denominator (problem_of model)
  some_goal goal some total over weighs is =
      is ∙ ap (λ t. if goal.worst then pos 1 else t) weighs ∙ sym (ap by_objective (objective_is ∙ ap (option_map objective_of) some))
