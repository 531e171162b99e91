-- What the scenarios of a setting have are the instances of the definitions.
use Rattle.std.proofs.Common.{◌≡◌, ◌∙◌, ap, sym, ℕ, List, [], map, Option, Some, slice_get}
use Rattle.std.specs.List.{range_with_len}
use Rattle.std.specs.Option.{option_map_or}
use Rattle.term_language.specs.Terms as c
use Rattle.compile_laws.specs.Instances.{Place, instance}
use Rattle.compile_laws.specs.Whole as whole
use Rattle.compile_laws.specs.Whole.{chance_terms, goal_terms, hard_terms}
use Rattle.compile_names.proofs.TreePlaces.{places_of_tree}
use Rattle.compile_names.specs.declared.setting.Scenarios.{Scenarios}
use Rattle.compile_scene.specs.Scenes.{IsLaid}
use Rattle.sopl_ast.specs.Instances.{Chance, Decision, Hard, Objective, Problem, Stochastic}
use Rattle.sopl_ast.specs.Known.{Binding, Known}
use Rattle.sopl_ast.specs.Scenarios.{Scenario, scenarios}
use Rattle.sopl_ast.specs.Tree.{Tree}
use Rattle.unfold_laws.specs.Conditions.{placed}
use Rattle.unfold_tables.specs.Tables.{table_known}
use Rattle.sopl_compile.proofs.Numbering.{by_numbers}
use Rattle.sopl_compile.specs.Listed.{condition_at, conditions_in, expression_at, place_at, terms_in}
use Rattle.sopl_compile.specs.Posed.{IsSettingOf, instances_in, posed}

module _ (setting : Scenarios) (laid : IsLaid setting) where
  -- the place of a scenario
  same_place : (conditions : List Tree) (bound : List Binding) (i : ℕ) (s : Scenario) → slice_get (scenarios setting.stochs.now) i ≡ Some s
      → place_at setting (placed (table_known setting.table.now) bound) i ≡ whole.place_at (posed setting conditions) bound s
  same_place conditions bound i s at = places_of_tree (posed setting conditions) setting.tree.now bound i s laid at

  -- a condition in each of them
  pub conditions_are : (conditions : List Tree) (text : ℕ) (bound : List Binding) (known : Known) (e : Tree) → known ≡ placed (table_known setting.table.now) bound
      → slice_get conditions text ≡ Some e → conditions_in setting known e ≡ instances_in setting conditions text bound
  conditions_are conditions text bound known e is there =
      let here : Known = placed (table_known setting.table.now) bound in
      let f : ℕ → c.Cond = condition_at setting here e in
      let g : Scenario → c.Cond = whole.condition_at (posed setting conditions) text bound in
      ap (λ k. conditions_in setting k e) is
      ∙ (ap (λ n. map f (range_with_len 0 n)) laid.count
      ∙ by_numbers f g (scenarios setting.stochs.now)
      (λ i s at. ap (λ (p : Place). (instance p e).cond) (same_place conditions bound i s at)
      ∙ sym (ap (λ (o : Option Tree). option_map_or (λ condition. (instance (whole.place_at (posed setting conditions) bound s) condition).cond) o (c.Any c.no_cond)) there)))

  -- a number expression in each of them
  pub terms_are : (o : Objective) → terms_in setting (table_known setting.table.now) o.value ≡ (goal_terms (posed setting []) o).terms
  terms_are o =
      let f : ℕ → c.Term = expression_at setting (table_known setting.table.now) o.value in
      let g : Scenario → c.Term = λ s. (instance (whole.place_at (posed setting []) [] s) o.value).term in
      ap (λ n. map f (range_with_len 0 n)) laid.count
      ∙ by_numbers f g (scenarios setting.stochs.now) (λ i s at. ap (λ (p : Place). (instance p o.value).term) (same_place [] [] i s at))

-- The setting of a problem.

-- a problem by what its expressions are instantiated with
abbrev with_parts : Problem → Known → List Decision → List Stochastic → List Tree → Problem
with_parts problem known ds ss conditions = record problem { known = known; decisions = ds; stochastics = ss; conditions = conditions }

module _ (problem : Problem) (setting : Scenarios) (of : IsSettingOf problem setting) where
  pub goal_terms_are : (o : Objective) → (goal_terms (posed setting []) o).terms ≡ (goal_terms problem o).terms
  goal_terms_are o = λ i. (goal_terms (with_parts problem (of.known i) (of.decisions i) (of.stochastics i) problem.conditions) o).terms

  pub hards_are : (conditions : List Tree) (hards : List Hard) → conditions ≡ problem.conditions → hards ≡ problem.hards
      → map (hard_terms (posed setting conditions)) hards ≡ map (hard_terms problem) problem.hards
  hards_are conditions hards same is = λ i. map (hard_terms (with_parts problem (of.known i) (of.decisions i) (of.stochastics i) (same i))) (is i)

  pub chances_are : (conditions : List Tree) (chances : List Chance) → conditions ≡ problem.conditions → chances ≡ problem.chances
      → map (chance_terms (posed setting conditions)) chances ≡ map (chance_terms problem) problem.chances
  chances_are conditions chances same is = λ i. map (chance_terms (with_parts problem (of.known i) (of.decisions i) (of.stochastics i) (same i))) (is i)
