-- The objective of a text.
use Rattle.std.proofs.Common.{◌≡◌, ◌∙◌, refl, sym, ap, subst, false, [], Option, Some, None, IfSome, option_map}
use Rattle.std.specs.List.{flat_map}
use Rattle.std.specs.Option.{option_map_or}
use Rattle.compile_laws.specs.Whole.{goal_terms}
use Rattle.compile_names.specs.declared.setting.Scenarios.{Scenarios}
use Rattle.compile_laws.specs.Measured.{goal_subterms}
use Rattle.compile_laws.specs.Subterms.{subterms}
use Rattle.compile_scene.specs.Scenes.{IsLaid}
use Rattle.sopl_ast.specs.Instances.{Objective, Problem}
use Rattle.sopl_ast.specs.Known.{Known}
use Rattle.sopl_ast.specs.UnfoldEvents.{expression_events}
use Rattle.sopl_ast.specs.Unfolding.{objective_of, problem_of, text_events}
use Rattle.sopl_ast.specs.Whole.{GoalTree, ModelTree}
use Rattle.sopl_base.specs.declared.direction.Direction.TheVariants.{Nothing}
use Rattle.unfold_laws.proofs.Conditions.{objective_is_met}
use Rattle.unfold_laws.specs.Passing.{NothingFails}
use Rattle.unfold_tables.specs.Tables.{table_known}
use Rattle.sopl_compile.proofs.Places.{goal_terms_are, terms_are}
use Rattle.sopl_compile.specs.Begun.{direction_of, worst_of}
use Rattle.sopl_compile.specs.Listed.{terms_in}
use Rattle.sopl_compile.specs.Posed.{IsSettingOf, terms_asked}

pub objective_is : (model : ModelTree) → (problem_of model).objective ≡ option_map objective_of model.goal
unfolding problem_of
objective_is model = refl

module _ (model : ModelTree) where
  none_is : model.goal ≡ None → (problem_of model).objective ≡ None
  none_is none = objective_is model ∙ ap (option_map objective_of) none

  pub some_is : (goal : GoalTree) → model.goal ≡ Some goal → (problem_of model).objective ≡ Some (objective_of goal)
  some_is goal some = objective_is model ∙ ap (option_map objective_of) some

  pub no_direction : model.goal ≡ None → Nothing ≡ direction_of (problem_of model)
  no_direction none = sym (ap (λ (x : Option Objective). option_map_or (λ (o : Objective). o.direction) x Nothing) (none_is none))

  pub goal_direction : (goal : GoalTree) → model.goal ≡ Some goal → goal.direction ≡ direction_of (problem_of model)
  goal_direction goal some = sym (ap (λ (x : Option Objective). option_map_or (λ (o : Objective). o.direction) x Nothing) (some_is goal some))

  pub no_worst : model.goal ≡ None → false ≡ worst_of (problem_of model)
  no_worst none = sym (ap (λ (x : Option Objective). option_map_or (λ (o : Objective). o.worst) x false) (none_is none))

  pub goal_worst : (goal : GoalTree) → model.goal ≡ Some goal → goal.worst ≡ worst_of (problem_of model)
  goal_worst goal some = sym (ap (λ (x : Option Objective). option_map_or (λ (o : Objective). o.worst) x false) (some_is goal some))

  pub no_terms : model.goal ≡ None → [] ≡ terms_asked (problem_of model)
  no_terms none = sym (ap (λ (x : Option Objective). option_map_or (λ (o : Objective). (goal_terms (problem_of model) o).terms) x []) (none_is none))

  pub goal_passes : (known : Known) (goal : GoalTree) → NothingFails (text_events model) → known ≡ (problem_of model).known → model.goal ≡ Some goal
      → NothingFails (expression_events known goal.expr)
  goal_passes known goal passes is some =
      subst (λ (k : Known). NothingFails (expression_events k goal.expr)) (sym is)
      (subst (λ (o : Option GoalTree). IfSome o (λ (g : GoalTree). NothingFails (expression_events (problem_of model).known g.expr))) some (objective_is_met model passes))

  pub goal_listed : (setting : Scenarios) (goal : GoalTree) → IsLaid setting → IsSettingOf (problem_of model) setting → model.goal ≡ Some goal
      → terms_in setting (table_known setting.table.now) goal.expr ≡ terms_asked (problem_of model)
  goal_listed setting goal laid of some =
      terms_are setting laid (objective_of goal)
      ∙ (goal_terms_are (problem_of model) setting of (objective_of goal)
      ∙ sym (ap (λ (x : Option Objective). option_map_or (λ (o : Objective). (goal_terms (problem_of model) o).terms) x []) (some_is goal some)))

-- the number expressions of an objective
pub goal_measured : (problem : Problem) → flat_map subterms (terms_asked problem) ≡ option_map_or goal_subterms (option_map (goal_terms problem) problem.objective) []
goal_measured problem = by problem.objective
  where
    by : (x : Option Objective) → flat_map subterms (option_map_or (λ (o : Objective). (goal_terms problem o).terms) x []) ≡ option_map_or goal_subterms (option_map (goal_terms problem) x) []
    by None = refl
    by (Some o) = refl
