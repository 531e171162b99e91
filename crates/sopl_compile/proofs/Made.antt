-- The problem in terms of a text that was read is well made, also where its tokens are not known.
use Rattle.std.proofs.Common.{◌≡◌, ◌∙◌, ap, subst, ◌≤◌, pos, ◌≤ℤ◌, length, Option, Some, IfSome, option_map}
use denote.Struct.Props.{props}
use Rattle.std.proofs.Math.Logic.{∥∥₁_elim, ∥∥₁_map}
use Rattle.std.specs.List.{AllByRecursion}
use Rattle.term_language.specs.Globals.{total}
use Rattle.compile_laws.proofs.WellMade.{problems_are_well_made}
use Rattle.compile_laws.specs.Whole.{goal_terms, problem_terms}
use Rattle.term_problem.specs.Problems.{GoalTerms}
use Rattle.sopl_ast.specs.Origin.{IsFromTokens}
use Rattle.sopl_ast.specs.Unfolding.{objective_of, problem_of, text_events}
use Rattle.sopl_ast.specs.Whole.{GoalTree, ModelTree}
use Rattle.sopl_base.specs.declared.direction.Direction.TheVariants.{Nothing}
use Rattle.sopl_base.proofs.Lists.{positive_there}
use Rattle.sopl_compile.proofs.Objectives.{objective_is}
use Rattle.unfold_laws.specs.Passing.{NothingFails}

module _ (model : ModelTree) (from : ∥ IsFromTokens model ∥₁) (passes : NothingFails (text_events model)) where
  pub some_weight : 1 ≤ length (problem_terms (problem_of model)).weights
  some_weight = ∥∥₁_elim from (search props) (λ f. (problems_are_well_made model f passes).first)

  pub weights_weigh : AllByRecursion (λ weight. pos 1 ≤ℤ weight) (problem_terms (problem_of model)).weights
  weights_weigh = positive_there (problem_terms (problem_of model)).weights (∥∥₁_map from (λ f. (problems_are_well_made model f passes).weighs))

  pub whole_is : (problem_terms (problem_of model)).whole ≡ total (problem_terms (problem_of model)).weights
  whole_is = ∥∥₁_elim from (search props) (λ f. (problems_are_well_made model f passes).whole)

  directed : (goal : GoalTree) → model.goal ≡ Some goal → IsFromTokens model → ¬ goal.direction ≡ Nothing
  directed goal some f =
      let is : option_map (goal_terms (problem_of model)) (problem_of model).objective ≡ Some (goal_terms (problem_of model) (objective_of goal)) =
      ap (option_map (goal_terms (problem_of model))) (objective_is model ∙ ap (option_map objective_of) some) in
      (subst (λ (o : Option GoalTerms). IfSome o (λ (g : GoalTerms). (length g.terms ≡ length (problem_terms (problem_of model)).weights) × (¬ g.direction ≡ Nothing))) is
      (problems_are_well_made model f passes).goal).1

  pub goal_directed : (goal : GoalTree) → model.goal ≡ Some goal → ¬ goal.direction ≡ Nothing
  goal_directed goal some none = ∥∥₁_elim from (λ a b. absurd a) (λ f. directed goal some f none)
