-- Where an expression is evaluated: a scenario of a tree, and the policy of the values that cells have.
use Rattle.std.specs.Prelude.{◌≡◌, ◌<◌, ℕ, ℤ, List, length, map}
use Rattle.std.specs.List.{range_with_len}
use Rattle.sopl_ast.specs.Cells.{policy_at}
use Rattle.sopl_ast.specs.Known.{Known}
use Rattle.sopl_ast.specs.Meanings.{Place}
use Rattle.sopl_scen.specs.Layout.{IsTreeOf, Layout, cells_for, count_in, value_in}
use Rattle.policy_values.specs.declared.played.PlayedScenario.{PlayedScenario}

-- the values of so many stochastic variables in a scenario
abbrev pub drawn_values : Layout → ℕ → ℕ → List ℤ
drawn_values tree count scenario = map (λ j. value_in tree j scenario) (range_with_len 0 count)

-- the place of a scenario
abbrev pub place_of : PlayedScenario → Known → Place
place_of played known =
    record {
      known = known;
      decisions = played.variables.now.decisions.now;
      stochastics = played.variables.now.stochs.now;
      scenario = drawn_values played.tree.now (length played.variables.now.stochs.now) played.scenario;
      policy = policy_at (cells_for played.variables.now.decisions.now played.variables.now.stochs.now) played.policy.now;
    }

-- the tree is that of the variables, it has the scenario, and there is a value for each cell
pub record IsPlayed (played : PlayedScenario) : Type 0 where
  pub laid : IsTreeOf played.variables.now.decisions.now played.variables.now.stochs.now played.tree.now
  pub exists : played.scenario < count_in played.tree.now
  pub decided : length played.policy.now ≡ length (cells_for played.variables.now.decisions.now played.variables.now.stochs.now)
