-- What holds of the definitions.
use Rattle.std.specs.Prelude.{◌≡◌, ◌↔◌, ℕ, ◌<◌, ℤ, ◌*ℤ◌, ◌≤ℤ◌, ◌<ℤ◌, true, List, [], ◌∷◌, ◌++◌, length, map, All, Contains, IsSome, IsTrue}
use Rattle.std.specs.List.{IsDistinct, flat_map, list_all}
use Rattle.sopl_ast.specs.Tree.{Trees}
use Rattle.sopl_ast.specs.Lists.{trees_list}
use Rattle.sopl_ast.specs.Numbers.{up_to, total, all_distinct, Task, demanded, is_sound, are_within}
use Rattle.sopl_ast.specs.Known.{Known, same_values}
use Rattle.sopl_ast.specs.Constants.{value_or_zero}
use Rattle.sopl_ast.specs.Declarations.{set_of}
use Rattle.sopl_ast.specs.Instances.{Outcome, Stochastic, Problem, distribution}
use Rattle.sopl_ast.specs.Scenarios as ast
use Rattle.sopl_ast.specs.Scenarios.{total_weight}
use Rattle.sopl_ast.specs.PlacedScenarios.{Scenario, scenarios, scenarios_after, without_places}
use Rattle.sopl_ast.specs.Policies.{Policy}
use Rattle.sopl_ast.specs.Optimal.{Satisfies, numerator}

-- each number is less than the next
abbrev pub Ascends : List ℤ → Type 0
Ascends [] = Unit {0}
Ascends (x ∷ []) = Unit {0}
Ascends (x ∷ y ∷ more) = (x <ℤ y) × Ascends (y ∷ more)

-- the numbers of a range ascend
abbrev pub RangesAscend : Type 0
RangesAscend = (lo hi : ℤ) → Ascends (up_to lo hi)

-- the numbers of a range are those from its lower to its upper end
abbrev pub RangesHold : Type 0
RangesHold = (lo hi z : ℤ) → Contains (up_to lo hi) z ↔ ((lo ≤ℤ z) × (z ≤ℤ hi))

-- the numbers of a set ascend
abbrev pub SetsAscend : Type 0
SetsAscend = (known : Known) (elements : Trees) → Ascends (set_of known elements)

-- the numbers of a set are those of its elements
abbrev pub SetsHold : Type 0
SetsHold =
    (known : Known) (elements : Trees) (z : ℤ)
    → Contains (set_of known elements) z ↔ Contains (map (value_or_zero known) (trees_list elements)) z

-- tasks fit under a capacity exactly where they are sound and at no whole number ask for more than it
abbrev pub FitAtEachTime : Type 0
FitAtEachTime =
    (capacity : ℤ) (tasks : List Task)
    → are_within capacity tasks ≡ true ↔ ((list_all is_sound tasks ≡ true) × ((time : ℤ) → demanded time tasks ≤ℤ capacity))

-- the scenarios of the definitions are these, without their places
abbrev pub ScenariosAgree : Type 0
ScenariosAgree = (stochastics : List Stochastic) → map without_places (scenarios stochastics) ≡ ast.scenarios stochastics

-- a scenario of later variables behind one of earlier variables
abbrev pub followed_by : Scenario → Scenario → Scenario
followed_by s later =
    record { places = s.places ++ later.places; values = s.values ++ later.values; weight = s.weight *ℤ later.weight }

-- scenarios of variables in two parts: those of the first part, each followed by those of the second part after it
abbrev pub ScenariosSplit : Type 0
ScenariosSplit =
    (places : List ℕ) (xs ys : List Stochastic)
    → scenarios_after places (xs ++ ys)
    ≡ flat_map (λ (s : Scenario). map (followed_by s) (scenarios_after (places ++ s.places) ys)) (scenarios_after places xs)

-- a stochastic variable has outcomes
abbrev pub HasOutcomes : Stochastic → Type 0
HasOutcomes s = 0 < length (distribution s)

-- there is a scenario, where each stochastic variable has outcomes
abbrev pub ScenariosAlive : Type 0
ScenariosAlive = (places : List ℕ) (stochastics : List Stochastic) → All HasOutcomes stochastics → 0 < length (scenarios_after places stochastics)

-- no two outcomes of a stochastic variable have the same value
abbrev pub HasDistinctOutcomes : Stochastic → Type 0
HasDistinctOutcomes s = IsTrue (all_distinct (map (λ (o : Outcome). o.value) (distribution s)))

-- no two scenarios have the same values, where outcomes are distinct
abbrev pub ScenariosDistinct : Type 0
ScenariosDistinct =
    (places : List ℕ) (stochastics : List Stochastic) → All HasDistinctOutcomes stochastics
    → IsDistinct same_values (map (λ (s : Scenario). s.values) (scenarios_after places stochastics))

-- the weights of all scenarios together are the product of the distributions' totals
abbrev pub WeightsSum : Type 0
WeightsSum = (stochastics : List Stochastic) → total (map (λ (s : Scenario). s.weight) (scenarios stochastics)) ≡ total_weight stochastics

-- a policy that satisfies is worth something, so that no better one is left out where policies are compared
abbrev pub SatisfiedIsWorth : Type 0
SatisfiedIsWorth =
    (problem : Problem) (policy : Policy) → All HasOutcomes problem.stochastics → Satisfies problem policy → IsSome (numerator problem policy)
