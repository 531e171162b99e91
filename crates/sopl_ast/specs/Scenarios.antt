-- The scenarios of an unfolded text and their weights.
use Rattle.std.specs.Prelude.{ℕ, ℤ, pos, ◌*ℤ◌, List, [], ◌∷◌, ◌++◌, map}
use Rattle.std.specs.List.{flat_map, enumerate_from}
use Rattle.sopl_ast.specs.Instances.{Outcome, Stochastic, distribution}
pub use Rattle.sopl_ast.specs.Numbers.{total}

-- a scenario: one value of each stochastic variable, in their order, and the product of these values' weights
pub record Scenario : Type 0 where
  pub values : List ℤ
  pub weight : ℤ

-- a scenario of the later variables, after this outcome of the first
abbrev pub preceded_by : Outcome → Scenario → Scenario
preceded_by outcome later =
    record { values = outcome.value ∷ later.values; weight = outcome.weight *ℤ later.weight }

-- the outcomes of a variable where the variables before it took these places, with their own places; the places are not looked at yet, since
-- variables are independent
abbrev pub outcomes_after : List ℕ → Stochastic → List (ℕ × Outcome)
outcomes_after places s = enumerate_from 0 (distribution s)

-- the scenarios of variables where those before them took these places, in lexicographic order of places
abbrev pub scenarios_after : List ℕ → List Stochastic → List Scenario
scenarios_after places [] = record { values = []; weight = pos 1 } ∷ []
scenarios_after places (first ∷ later) =
    flat_map (λ (drawn : ℕ × Outcome). map (preceded_by drawn.1) (scenarios_after (places ++ drawn.0 ∷ []) later)) (outcomes_after places first)

-- all scenarios
abbrev pub scenarios : List Stochastic → List Scenario
scenarios stochastics = scenarios_after [] stochastics

-- the total of a distribution's weights
abbrev pub total_of : List Outcome → ℤ
total_of outcomes = total (map (λ outcome. outcome.weight) outcomes)

-- the weight of all scenarios together: the product of the distributions' totals
abbrev pub total_weight : List Stochastic → ℤ
total_weight [] = pos 1
total_weight (first ∷ later) = total_of (distribution first) *ℤ total_weight later
