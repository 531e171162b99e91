-- What holds of scenarios, of histories and of their limits.
use Rattle.std.specs.Prelude.{◌≡◌, ℕ, suc, ◌≤◌, ◌-◌, ◌*◌, ◌^◌, ℤ, pos, ◌≤ℤ◌, ◌*ℤ◌, int_le, nat_lt, List, [], ◌∷◌, ◌++◌, length, take, map, slice_get, Option, Some, None, if◌then◌else◌}
use Rattle.std.specs.Int.{int_min}
use Rattle.std.specs.List.{AllByRecursion, IsDistinct, flat_map, position}
use Rattle.sopl_base.specs.declared.fault.Excess.{Excess}
use Rattle.sopl_ast.specs.Whole.{ModelTree}
use Rattle.sopl_ast.specs.Known.{same_values}
use Rattle.sopl_ast.specs.UnfoldEvents.{excess}
use Rattle.sopl_ast.specs.Instances.{Outcome, Stochastic, distribution}
use Rattle.sopl_ast.specs.Scenarios.{Scenario, scenarios, total_of, total_weight}
use Rattle.sopl_ast.specs.Histories.{history, histories}
use Rattle.sopl_ast.specs.Limits.{first_above, prefixes}
use Rattle.sopl_ast.specs.Unfolding.{problem_of}
use Rattle.unfold_laws.specs.Bounds.{IsBoundedStochastic}

-- a scenario of later variables behind one of earlier variables
abbrev pub followed : Scenario → Scenario → Scenario
followed s later = record { values = s.values ++ later.values; weight = s.weight *ℤ later.weight }

-- a scenario with an outcome of one more variable
abbrev pub extended : Scenario → Outcome → Scenario
extended s o = record { values = s.values ++ o.value ∷ []; weight = s.weight *ℤ o.weight }

-- the values of a scenario
abbrev pub values_of : Scenario → List ℤ
values_of s = s.values

-- the values of all scenarios, in order
abbrev pub rows : List Stochastic → List (List ℤ)
rows stochastics = map values_of (scenarios stochastics)

-- a stochastic variable has outcomes
abbrev pub HasOutcome : Stochastic → Type 0
HasOutcome s = 1 ≤ length (distribution s)

-- each variable's stage is at most those behind it
abbrev pub IsByStage : List Stochastic → Type 0
IsByStage [] = Unit {0}
IsByStage (s ∷ later) = AllByRecursion (λ (t : Stochastic). s.stage ≤ t.stage) later × IsByStage later

-- how many variables come before the first whose stage is not below this one
abbrev pub seen_before : ℕ → List Stochastic → ℕ
seen_before stage [] = 0
seen_before stage (s ∷ later) = if nat_lt s.stage stage then suc (seen_before stage later) else 0

-- the stochastic variables of a text are by stage
abbrev pub StochasticsAscend : Type 0
StochasticsAscend = (model : ModelTree) → IsByStage (problem_of model).stochastics

-- scenarios of variables in two parts
abbrev pub ScenariosSplit : Type 0
ScenariosSplit =
    (xs ys : List Stochastic) → scenarios (xs ++ ys) ≡ flat_map (λ (s : Scenario). map (followed s) (scenarios ys)) (scenarios xs)

-- one more variable: each scenario of the variables before it, with each of its outcomes
abbrev pub ScenariosExtend : Type 0
ScenariosExtend =
    (xs : List Stochastic) (s : Stochastic)
    → scenarios (xs ++ s ∷ []) ≡ flat_map (λ (p : Scenario). map (extended p) (distribution s)) (scenarios xs)

-- how many scenarios variables in two parts have
abbrev pub ScenariosAreCounted : Type 0
ScenariosAreCounted = (xs ys : List Stochastic) → length (scenarios (xs ++ ys)) ≡ length (scenarios xs) * length (scenarios ys)

-- a prefix of the variables has no more scenarios
abbrev pub PrefixesAreFewer : Type 0
PrefixesAreFewer =
    (n : ℕ) (stochastics : List Stochastic) → AllByRecursion HasOutcome stochastics
    → (1 ≤ length (scenarios (take n stochastics))) × (length (scenarios (take n stochastics)) ≤ length (scenarios stochastics))

-- a scenario of a prefix of the variables weighs 1 at least, and no more than all scenarios
abbrev pub ScenariosAreLight : Type 0
ScenariosAreLight =
    (n : ℕ) (stochastics : List Stochastic) → AllByRecursion HasOutcome stochastics → AllByRecursion IsBoundedStochastic stochastics
    → AllByRecursion (λ (s : Scenario). (pos 1 ≤ℤ s.weight) × (s.weight ≤ℤ total_weight stochastics)) (scenarios (take n stochastics))

-- no two scenarios have the same values
abbrev pub RowsDiffer : Type 0
RowsDiffer = (stochastics : List Stochastic) → AllByRecursion IsBoundedStochastic stochastics → IsDistinct same_values (rows stochastics)

-- the number of a list among lists of which no two are the same
abbrev pub RowsAreNumbered : Type 0
RowsAreNumbered =
    (list : List (List ℤ)) (n : ℕ) (row : List ℤ) → IsDistinct same_values list → slice_get list n ≡ Some row
    → position (same_values row) list ≡ Some n

-- the history of a stage in a scenario: the values of the variables of stages below it
abbrev pub HistoriesArePrefixes : Type 0
HistoriesArePrefixes =
    (stage : ℕ) (stochastics : List Stochastic) (values : List ℤ) → IsByStage stochastics → length values ≡ length stochastics
    → history stage stochastics values ≡ take (seen_before stage stochastics) values

-- the histories of a stage: the values of the scenarios of the variables of stages below it
abbrev pub HistoriesAreRows : Type 0
HistoriesAreRows =
    (stage : ℕ) (stochastics : List Stochastic) → IsByStage stochastics → AllByRecursion HasOutcome stochastics
    → AllByRecursion IsBoundedStochastic stochastics → histories stage stochastics ≡ rows (take (seen_before stage stochastics) stochastics)

-- the product of a number of each variable
abbrev pub product_of : (Stochastic → ℤ) → List Stochastic → ℤ
product_of f [] = pos 1
product_of f (s ∷ later) = f s *ℤ product_of f later

-- the first running product that passes a limit
abbrev pub first_passed : ℕ → ℕ → (Stochastic → ℤ) → ℤ → List Stochastic → Option Excess
first_passed code limit f so_far [] = None
first_passed code limit f so_far (s ∷ later) =
    if int_le (so_far *ℤ f s) (pos limit)
    then first_passed code limit f (so_far *ℤ f s) later
    else Some (excess code (int_min (so_far *ℤ f s) (pos (2 ^ 127 - 1))) (pos limit))

-- the total of a variable's weights, and how many outcomes it has
abbrev pub weight_factor : Stochastic → ℤ
weight_factor s = total_of (distribution s)

abbrev pub count_factor : Stochastic → ℤ
count_factor s = pos (length (distribution s))

-- the total weight and the number of scenarios, as products
abbrev pub WeightsMultiply : Type 0
WeightsMultiply = (stochastics : List Stochastic) → total_weight stochastics ≡ product_of weight_factor stochastics

abbrev pub CountsMultiply : Type 0
CountsMultiply = (stochastics : List Stochastic) → pos (length (scenarios stochastics)) ≡ product_of count_factor stochastics

-- the first prefix whose product passes a limit, by running products
abbrev pub ProductsRun : Type 0
ProductsRun =
    (code limit : ℕ) (f : Stochastic → ℤ) (stochastics : List Stochastic)
    → first_above code limit (map (product_of f) (prefixes stochastics)) ≡ first_passed code limit f (pos 1) stochastics
