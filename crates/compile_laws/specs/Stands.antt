-- Where the terms of a text's expressions may be made: each declared name is an array there.
use Rattle.std.specs.Prelude.{◌≡◌, ℕ, List, length}
use Rattle.std.specs.List.{Contains}
use Rattle.sopl_ast.specs.Whole.{ModelTree}
use Rattle.sopl_ast.specs.Known.{Binding}
use Rattle.sopl_ast.specs.Mistakes.{IsWellTyped}
use Rattle.sopl_ast.specs.Instances.{Stochastic}
use Rattle.sopl_ast.specs.Scenarios.{Scenario, scenarios}
use Rattle.sopl_ast.specs.Unfolding.{problem_of, text_events}
use Rattle.unfold_laws.specs.Passing.{NothingFails}
use Rattle.compile_laws.specs.Laws.{AreArrays, place_for}

-- the elements of each name of a text are those of an array, where the text has no mistake and nothing stops its unfolding, in a scenario that gives
-- each stochastic variable a value and with a cell for each decision
abbrev pub ArraysStand : Type 0
ArraysStand =
    (model : ModelTree) → IsWellTyped model → NothingFails (text_events model) → (bound : List Binding) (s : Scenario) (numbers : List ℕ)
    → length s.values ≡ length (problem_of model).stochastics → length numbers ≡ length (problem_of model).decisions
    → AreArrays (place_for (problem_of model) bound s numbers)

-- each scenario gives each stochastic variable a value
abbrev pub ScenariosAreWhole : Type 0
ScenariosAreWhole = (stochastics : List Stochastic) (s : Scenario) → Contains (scenarios stochastics) s → length s.values ≡ length stochastics
