-- What has been seen when a stage is chosen.
use Rattle.std.specs.Prelude.{ℕ, ℤ, not, List, [], ◌∷◌, map, filter, nat_lt, Option, if◌then◌else◌}
use Rattle.std.specs.List.{position}
pub use Rattle.sopl_ast.specs.Known.{same_values}
use Rattle.sopl_ast.specs.Instances.{Stochastic}
use Rattle.sopl_ast.specs.Scenarios.{Scenario, scenarios}

-- the values, of those given for the stochastic variables in order, that belong to variables of earlier stages
abbrev pub history : ℕ → List Stochastic → List ℤ → List ℤ
history stage [] values = []
history stage (first ∷ later) [] = []
history stage (first ∷ later) (value ∷ values) =
    if nat_lt first.stage stage then value ∷ history stage later values else history stage later values

-- each list once, where it stands first
abbrev pub distinct : List (List ℤ) → List (List ℤ)
distinct [] = []
distinct (first ∷ later) = first ∷ filter (λ other. not (same_values first other)) (distinct later)

-- the histories of a stage, in the order of the first scenario that has each
abbrev pub histories : ℕ → List Stochastic → List (List ℤ)
histories stage stochastics = distinct (map (λ (s : Scenario). history stage stochastics s.values) (scenarios stochastics))

-- the number of a history among those of its stage, counted from 0
abbrev pub number_of : List ℤ → ℕ → List Stochastic → Option ℕ
number_of seen stage stochastics = position (same_values seen) (histories stage stochastics)
