-- The problem in terms of a text is well made.
use Rattle.std.proofs.Common.{◌≡◌, ◌∙◌, ◌⊎◌, inl, inr, refl, sym, ap, subst, ℕ, ◌≤◌, ℤ, pos, ◌≤ℤ◌, Bool, true, false, List, [], ◌∷◌, length, map, Option, Some, None, IfSome, option_map}
use Rattle.std.proofs.Math.Seq.{take-length}
use Rattle.std.proofs.lemmas.List.{length-map}
use Rattle.std.proofs.lemmas.Simd.{map-map}
use Rattle.std.specs.List.{AllByRecursion}
use Rattle.std.specs.Prelude.{nat_eq}
use Rattle.sopl_base.specs.declared.direction.Direction.{Direction}
use Rattle.sopl_base.specs.declared.direction.Direction.TheVariants.{Minimize, Maximize, Nothing}
use Rattle.sopl_ast.specs.declared.token.Token.{Token}
use Rattle.sopl_ast.specs.declared.token.TokenKind.{TokenKind}
use Rattle.sopl_ast.specs.Cells.{cells}
use Rattle.sopl_ast.specs.Instances.{Stochastic, Hard, Chance, Objective, Problem}
use Rattle.sopl_ast.specs.KindSets.{kind_number}
use Rattle.sopl_ast.specs.ModelRows.{direction_sign, goal_row, model_row, row}
use Rattle.sopl_ast.specs.Nonterminals.{Model}
use Rattle.sopl_ast.specs.Numbers as ast
use Rattle.sopl_ast.specs.PhraseLanguage.{give, ◌makes◌}
use Rattle.sopl_ast.specs.PlacedScenarios as placed
use Rattle.sopl_ast.specs.PlacedScenarios.{without_places}
use Rattle.sopl_ast.specs.RowSpelling.{IsTerminal, stands, lacking, IsSpelledAt}
use Rattle.sopl_ast.specs.Scenarios.{Scenario, scenarios, total_weight}
use Rattle.sopl_ast.specs.Terminals.{found_or, says}
use Rattle.sopl_ast.specs.Unfolding.{objective_of, problem_of}
use Rattle.sopl_ast.specs.Whole.{GoalTree, ModelTree}
use Rattle.lang_laws.proofs.ScenarioLaws.{scenarios_agree, weights_sum}
use Rattle.unfold_laws.specs.Bounds.{IsBoundedStochastic}
use Rattle.unfold_laws.specs.Conditions.{IsMet, IsThreshold}
use Rattle.unfold_laws.proofs.Outcomes.{stochastics_have_outcomes}
use Rattle.unfold_laws.proofs.Conditions.{chances_are_met}
use Rattle.unfold_laws.proofs.Whole.{stochastics_are_bounded}
use Rattle.scen_laws.specs.Laws.{HasOutcome}
use Rattle.scen_laws.proofs.Counts.{some_scenario}
use Rattle.scen_laws.proofs.Weights.{scenarios_are_light}
use Rattle.term_language.specs.Globals.{total}
use Rattle.term_language.specs.Terms as c
use Rattle.term_problem.specs.Problems.{GoalTerms, IsChance}
use Rattle.term_problem.proofs.Lawful.{problems_are_lawful}
use Rattle.compile_laws.specs.Instances.{instance}
use Rattle.compile_laws.specs.Root.{root_box}
use Rattle.compile_laws.specs.WellMade.{ProblemsAreWellMade, TextsAreLawful}
use Rattle.compile_laws.specs.Whole.{place_at, condition_at, hard_terms, chance_terms, goal_terms, problem_terms}
use Rattle.compile_laws.proofs.Proper.{problems_are_proper}
use Rattle.compile_laws.proofs.Root.{root_is_box}
use Rattle.compile_laws.proofs.Agreeing.{total_so}

-- Directions.

directed : (kind : TokenKind) (direction : Direction) → says direction_sign kind ≡ Some direction → ¬ direction ≡ Nothing
directed kind direction is = by_tests (nat_eq 17 (kind_number kind)) (nat_eq 18 (kind_number kind)) is
  where
    by_tests : (minimize maximize : Bool) → found_or minimize Minimize (found_or maximize Maximize None) ≡ Some direction → ¬ direction ≡ Nothing
    by_tests true maximize is none = absurd (cc)
    by_tests false true is none = absurd (cc)
    by_tests false false is none = absurd (cc)

sign_directed : (ts : List Token) (x : ℕ × Direction) (r : List Token) → IsTerminal false direction_sign ts x r → ¬ x.1 ≡ Nothing
sign_directed _ _ _ (stands u us direction is) = directed u.kind direction is
sign_directed _ _ _ (lacking x is) = absurd (cc)

abbrev IsDirected : GoalTree → Type 0
IsDirected objective = ¬ objective.direction ≡ Nothing

goal_directed : (n : ℕ) (ts : List Token) (objective : GoalTree) (r : List Token) → IsSpelledAt false n goal_row ts objective r → IsDirected objective
unfolding goal_row
goal_directed n ts objective r is = subst IsDirected (sym is.1.1) (sign_directed ts is.0.0 is.1.0.0 is.1.0.1.0)

goals_directed : (n : ℕ) (ts : List Token) (objective : Option GoalTree) (r : List Token)
    → IsSpelledAt false n (goal_row makes Some) ts objective r ⊎ IsSpelledAt false n (give None) ts objective r → IfSome objective IsDirected
goals_directed n ts objective r (inl is) = subst (λ (o : Option GoalTree). IfSome o IsDirected) (sym is.1.1) (goal_directed n ts is.0 r is.1.0)
goals_directed n ts objective r (inr is) = subst (λ (o : Option GoalTree). IfSome o IsDirected) (sym is.0) tt

model_directed : (n : ℕ) (ts : List Token) (whole : ModelTree) (r : List Token) → IsSpelledAt false n (row Model) ts whole r → IfSome whole.goal IsDirected
unfolding model_row
model_directed n ts whole r is =
    subst (λ (tree : ModelTree). IfSome tree.goal IsDirected) (sym is.1.1) (goals_directed n is.1.0.0 is.0.1.0 is.1.0.1.1.0 is.1.0.1.1.1.0)

-- Weights.

abbrev weight_of : Scenario → ℤ
weight_of s = s.weight

whole_is : (ss : List Stochastic) → total_weight ss ≡ total (map weight_of (scenarios ss))
whole_is ss =
    sym (weights_sum ss)
    ∙ (ap ast.total (sym (map-map weight_of without_places (placed.scenarios ss)))
    ∙ (ap (λ (list : List Scenario). ast.total (map weight_of list)) (scenarios_agree ss) ∙ sym (total_so (map weight_of (scenarios ss)))))

all_weigh : (most : ℤ) (list : List Scenario) → AllByRecursion (λ (s : Scenario). (pos 1 ≤ℤ s.weight) × (s.weight ≤ℤ most)) list → AllByRecursion (λ weight. pos 1 ≤ℤ weight) (map weight_of list)
all_weigh most [] light = tt
all_weigh most (s ∷ list) light = (light.0.0, all_weigh most list light.1)

weigh : (ss : List Stochastic) → AllByRecursion HasOutcome ss → AllByRecursion IsBoundedStochastic ss → AllByRecursion (λ weight. pos 1 ≤ℤ weight) (map weight_of (scenarios ss))
weigh ss some bounded =
    all_weigh (total_weight ss) (scenarios ss)
    (subst (λ (prefix : List Stochastic). AllByRecursion (λ (s : Scenario). (pos 1 ≤ℤ s.weight) × (s.weight ≤ℤ total_weight ss)) (scenarios prefix)) (take-length ss)
    (scenarios_are_light (length ss) ss some bounded))

module _ (problem : Problem) where
  -- as many as there are scenarios
  as_many : {A : Type 0} (f : Scenario → A) → length (map f (scenarios problem.stochastics)) ≡ length (map weight_of (scenarios problem.stochastics))
  as_many f = length-map (scenarios problem.stochastics) f ∙ sym (length-map (scenarios problem.stochastics) weight_of)

  hards_are : (hards : List Hard) → AllByRecursion (λ (conditions : List c.Cond). length conditions ≡ length (problem_terms problem).weights) (map (hard_terms problem) hards)
  hards_are [] = tt
  hards_are (h ∷ hards) = (as_many (condition_at problem h.text h.bound), hards_are hards)

  chances_are : (chances : List Chance) → AllByRecursion (λ (chance : Chance). IsMet problem.known problem.conditions chance.text chance.bound × IsThreshold chance.p chance.q) chances
      → AllByRecursion (IsChance (problem_terms problem)) (map (chance_terms problem) chances)
  chances_are [] met = tt
  chances_are (chance ∷ chances) met =
      (record { each = as_many (condition_at problem chance.text chance.bound); positive = met.0.1.positive }, chances_are chances met.1)

  goal_is : (objective : Option GoalTree) → IfSome objective IsDirected
      → IfSome (option_map (goal_terms problem) (option_map objective_of objective)) (λ (g : GoalTerms). (length g.terms ≡ length (problem_terms problem).weights) × (¬ g.direction ≡ Nothing))
  goal_is None asked = tt
  goal_is (Some objective) asked = (as_many (λ s. (instance (place_at problem [] s) objective.expr).term), asked)

objective_is : (whole : ModelTree) → (problem_of whole).objective ≡ option_map objective_of whole.goal
unfolding problem_of
objective_is whole = refl

pub problems_are_well_made : ProblemsAreWellMade
problems_are_well_made whole from passes =
    record {
      first = subst (λ (n : ℕ). 1 ≤ n) (sym (length-map (scenarios problem.stochastics) weight_of)) (some_scenario problem.stochastics some);
      weighs = weigh problem.stochastics some (stochastics_are_bounded whole passes);
      whole = whole_is problem.stochastics;
      hards = hards_are problem problem.hards;
      chances = chances_are problem problem.chances (chances_are_met whole passes);
      goal =
          subst (λ (objective : Option Objective). IfSome (option_map (goal_terms problem) objective)
          (λ (g : GoalTerms). (length g.terms ≡ length (problem_terms problem).weights) × (¬ g.direction ≡ Nothing)))
          (sym (objective_is whole)) (goal_is problem whole.goal (model_directed from.spelled.nesting from.tokens whole [] from.spelled.spelled));
      proper = problems_are_proper problem;
    }
  where
    problem : Problem
    problem = problem_of whole

    some : AllByRecursion HasOutcome problem.stochastics
    some = stochastics_have_outcomes whole from

pub texts_are_lawful : TextsAreLawful
texts_are_lawful whole from passes =
    problems_are_lawful (root_box (cells (problem_of whole))) (problem_terms (problem_of whole)) (root_is_box whole passes) (problems_are_well_made whole from passes)
