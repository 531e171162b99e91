-- Where expressions are instantiated in a scenario, in the words of a tree of scenarios.
use Rattle.std.specs.Prelude.{◌≡◌, ℕ, ℤ, List, length, map, Some, slice_get}
use Rattle.std.specs.List.{range_with_len}
use Rattle.sopl_ast.specs.Known.{Binding, Known}
use Rattle.sopl_ast.specs.Instances.{Decision, Stochastic, Problem}
use Rattle.sopl_ast.specs.Scenarios.{Scenario, scenarios}
use Rattle.sopl_scen.specs.Layout.{Layout, IsTreeOf, cell_in, value_in}
use Rattle.compile_laws.specs.Instances.{Place}
use Rattle.compile_laws.specs.Whole.{place_at}

-- the values of so many stochastic variables in a scenario
abbrev pub values_at : Layout → ℕ → ℕ → List ℤ
values_at tree count scenario = map (λ j. value_in tree j scenario) (range_with_len 0 count)

-- the numbers of the cells of so many decisions in a scenario
abbrev pub cells_at : Layout → ℕ → ℕ → List ℕ
cells_at tree count scenario = map (λ j. cell_in tree j scenario) (range_with_len 0 count)

-- the place of a scenario
abbrev pub place_in : List Decision → List Stochastic → Layout → ℕ → Known → Place
place_in ds ss tree scenario known =
    record {
      known = known;
      stochastics = ss;
      scenario = values_at tree (length ss) scenario;
      decisions = ds;
      cells = cells_at tree (length ds) scenario;
    }

-- what a tree gives in a scenario is where the problem's expressions are instantiated there
abbrev pub PlacesOfTree : Type 0
PlacesOfTree =
    (problem : Problem) (tree : Layout) (bound : List Binding) (i : ℕ) (s : Scenario) → IsTreeOf problem.decisions problem.stochastics tree
    → slice_get (scenarios problem.stochastics) i ≡ Some s
    → place_in problem.decisions problem.stochastics tree i (record problem.known { bound = bound }) ≡ place_at problem bound s
