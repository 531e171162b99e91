-- The scenarios of an unfolded text with the places of their outcomes, by which a later variable's outcomes may depend on those of the earlier ones.
use Rattle.std.specs.Prelude.{ℕ, ℤ, pos, ◌*ℤ◌, List, [], ◌∷◌, ◌++◌, map}
use Rattle.std.specs.List.{flat_map}
use Rattle.sopl_ast.specs.Instances.{Outcome, Stochastic}
use Rattle.sopl_ast.specs.Scenarios as ast
use Rattle.sopl_ast.specs.Scenarios.{outcomes_after}

-- a scenario: one outcome of each stochastic variable, in their order, by its place in the written distribution and by its value; and the product of
-- these outcomes' weights
pub record Scenario : Type 0 where
  pub places : List ℕ
  pub values : List ℤ
  pub weight : ℤ

-- a scenario of the later variables, after this outcome of the first, which stands at this place
abbrev pub preceded_by : ℕ × Outcome → Scenario → Scenario
preceded_by drawn later =
    record { places = drawn.0 ∷ later.places; values = drawn.1.value ∷ later.values; weight = drawn.1.weight *ℤ later.weight }

-- the scenarios of variables where those before them took these places, in lexicographic order of places
abbrev pub scenarios_after : List ℕ → List Stochastic → List Scenario
scenarios_after places [] = (record { places = []; values = []; weight = pos 1 }) ∷ []
scenarios_after places (first ∷ later) =
    flat_map (λ (drawn : ℕ × Outcome). map (preceded_by drawn) (scenarios_after (places ++ drawn.0 ∷ []) later)) (outcomes_after places first)

-- all scenarios
abbrev pub scenarios : List Stochastic → List Scenario
scenarios stochastics = scenarios_after [] stochastics

-- a scenario without its places
abbrev pub without_places : Scenario → ast.Scenario
without_places s = record { values = s.values; weight = s.weight }
