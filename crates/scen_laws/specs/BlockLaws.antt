-- Blocks of scenarios: those that have seen the same when a stage is chosen.
use Rattle.std.specs.Prelude.{◌≡◌, ℕ, ◌+◌, ◌*◌, ◌/◌, ◌<◌, ◌≤◌, ℤ, List, [], ◌++◌, length, map, filter, get_or, nat_eq, Some, slice_get}
use Rattle.std.specs.List.{AllByRecursion, flat_map}
use Rattle.sopl_ast.specs.Instances.{Stochastic}
use Rattle.sopl_ast.specs.Scenarios.{Scenario, scenarios}
use Rattle.sopl_ast.specs.Histories.{history, histories}
use Rattle.unfold_laws.specs.Bounds.{IsBoundedStochastic}
use Rattle.scen_laws.specs.Laws.{HasOutcome, IsByStage, rows, seen_before}

-- stochastic variables as a text states them: by stage, each with outcomes, and no two of these with one value
pub record AreOrderly (stochastics : List Stochastic) : Type 0 where
  pub ordered : IsByStage stochastics
  pub outcomes : AllByRecursion HasOutcome stochastics
  pub bounded : AllByRecursion IsBoundedStochastic stochastics

-- the stochastic variables of a stage
abbrev pub of_stage : ℕ → List Stochastic → List Stochastic
of_stage stage stochastics = filter (λ (s : Stochastic). nat_eq s.stage stage) stochastics

-- how many scenarios share a history of a stage
abbrev pub block_of : ℕ → List Stochastic → ℕ
block_of stage stochastics = length (scenarios stochastics) / length (histories stage stochastics)

-- a row, followed by each row of these variables
abbrev pub rows_behind : List Stochastic → List ℤ → List (List ℤ)
rows_behind stochastics row = map (λ other. row ++ other) (rows stochastics)

-- the rows of variables in two parts: each row of the first part, followed by each of the second
abbrev pub RowsSplit : Type 0
RowsSplit = (xs ys : List Stochastic) → rows (xs ++ ys) ≡ flat_map (rows_behind ys) (rows xs)

-- the histories of the next stage: each history of a stage, followed by each row of the stage's variables
abbrev pub HistoriesGoOn : Type 0
HistoriesGoOn =
    (stage : ℕ) (stochastics : List Stochastic) → AreOrderly stochastics
    → histories (stage + 1) stochastics ≡ flat_map (rows_behind (of_stage stage stochastics)) (histories stage stochastics)

-- the blocks of a stage, of which there is one at least and none is empty, are all scenarios
pub record FillsBlocks (stage : ℕ) (stochastics : List Stochastic) : Type 0 where
  pub whole : length (histories stage stochastics) * block_of stage stochastics ≡ length (scenarios stochastics)
  pub some : 1 ≤ length (histories stage stochastics)
  pub filled : 1 ≤ block_of stage stochastics

abbrev pub BlocksFill : Type 0
BlocksFill = (stage : ℕ) (stochastics : List Stochastic) → AreOrderly stochastics → FillsBlocks stage stochastics

-- a block is as many blocks of the next stage as the stage's variables have rows
abbrev pub BlocksDivide : Type 0
BlocksDivide =
    (stage : ℕ) (stochastics : List Stochastic) → AreOrderly stochastics
    → block_of stage stochastics ≡ length (rows (of_stage stage stochastics)) * block_of (stage + 1) stochastics

-- the scenarios of the block with this number have the history with this number
abbrev pub HistoriesAreBlocks : Type 0
HistoriesAreBlocks =
    (stage number place : ℕ) (stochastics : List Stochastic) (s : Scenario) → AreOrderly stochastics → number < length (histories stage stochastics)
    → place < block_of stage stochastics → slice_get (scenarios stochastics) (number * block_of stage stochastics + place) ≡ Some s
    → slice_get (histories stage stochastics) number ≡ Some (history stage stochastics s.values)

-- the number of the history of the next stage that is this history, followed by this row of the stage's variables
abbrev pub next_number : ℕ → List Stochastic → ℕ → ℕ → ℕ
next_number stage stochastics number row = number * length (rows (of_stage stage stochastics)) + row

-- in its block, the variables of the stage have the values of the row
abbrev pub ValuesOfStages : Type 0
ValuesOfStages =
    (stage number row place j : ℕ) (stochastics : List Stochastic) (s : Scenario) → AreOrderly stochastics → number < length (histories stage stochastics)
    → row < length (rows (of_stage stage stochastics)) → place < block_of (stage + 1) stochastics → j < length (of_stage stage stochastics)
    → slice_get (scenarios stochastics) (next_number stage stochastics number row * block_of (stage + 1) stochastics + place) ≡ Some s
    → slice_get s.values (seen_before stage stochastics + j) ≡ slice_get (get_or (rows (of_stage stage stochastics)) row []) j
