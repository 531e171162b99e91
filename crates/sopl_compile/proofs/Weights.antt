-- The weights of scenarios.
use Rattle.std.proofs.Common.{arith, ◌≡◌, ◌∙◌, refl, sym, ap, subst, ℕ, suc, ◌<◌, ◌≤◌, ◌^◌, ℤ, pos, ◌≤ℤ◌, List, [], ◌∷◌, length, map, get_or, Some, None, slice_get}
use Rattle.std.proofs.lemmas.List.{length-map}
use Rattle.sopl_ast.specs.Limits.{usual_limits}
use Rattle.term_language.specs.Globals.{total}
use Rattle.compile_laws.specs.Whole.{problem_terms}
use Rattle.compile_names.specs.declared.setting.Scenarios.{Scenarios}
use Rattle.sopl_scen.specs.Layout.{IsTreeOf, Layout}
use Rattle.compile_scene.specs.Scenes.{IsLaid}
use Rattle.sopl_ast.specs.Instances.{Decision, Problem, Stochastic}
use Rattle.sopl_ast.specs.Scenarios.{Scenario, scenarios, total_weight}
use Rattle.sopl_compile.specs.Begun.{bare_terms}
use Rattle.sopl_compile.specs.Posed.{IsSettingOf}

abbrev pub weight_of : Scenario → ℤ
weight_of s = s.weight

by_scenarios : (ws : List ℤ) (list : List Scenario) → length ws ≡ length list → ((i : ℕ) (s : Scenario) → slice_get list i ≡ Some s → get_or ws i (pos 0) ≡ s.weight) → ws ≡ map weight_of list
by_scenarios [] [] many each = refl
by_scenarios [] (s ∷ list) many each = absurd (omega (arith, many))
by_scenarios (w ∷ ws) [] many each = absurd (omega (arith, many))
by_scenarios (w ∷ ws) (s ∷ list) many each =
    λ k. each 0 s refl k ∷ by_scenarios ws list (omega (arith, many)) (λ i t at. each (suc i) t at) k

-- those of a tree are those of the scenarios
pub weights_are : (ds : List Decision) (ss : List Stochastic) (tree : Layout) → IsTreeOf ds ss tree → tree.weights ≡ map weight_of (scenarios ss)
weights_are ds ss tree laid = by_scenarios tree.weights (scenarios ss) laid.count laid.weighed

-- Those of a setting are the problem's.
module _ (problem : Problem) (setting : Scenarios) (laid : IsLaid setting) (of : IsSettingOf problem setting) (ws : List ℤ) (is : ws ≡ setting.tree.now.weights) where
  pub weights_own : ws ≡ (problem_terms problem).weights
  weights_own =
      is ∙ (weights_are setting.decisions.now setting.stochs.now setting.tree.now laid ∙ ap (λ (ss : List Stochastic). map weight_of (scenarios ss)) of.stochastics)

  pub weights_few : length (scenarios problem.stochastics) ≤ usual_limits.scenarios → length ws < 2 ^ 32
  weights_few few = omega (arith, ap (length {A = ℤ}) weights_own, length-map (scenarios problem.stochastics) weight_of, few)

  pub weights_light : (problem_terms problem).whole ≡ total (problem_terms problem).weights → total_weight problem.stochastics ≤ℤ pos (2 ^ 100) → total ws ≤ℤ pos (2 ^ 100)
  weights_light whole light = subst (λ (z : ℤ). z ≤ℤ pos (2 ^ 100)) (whole ∙ sym (ap total weights_own)) light

  pub bare_is : (problem_terms problem).whole ≡ total (problem_terms problem).weights
      → (record { weights = ws; whole = total ws; hards = []; chances = []; goal = None }) ≡ bare_terms problem
  bare_is whole = λ i. record { weights = weights_own i; whole = (ap total weights_own ∙ sym whole) i; hards = []; chances = []; goal = None }
