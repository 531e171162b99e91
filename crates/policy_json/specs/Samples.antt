-- The decisions and the stochastic variables of the tests.
use Rattle.std.specs.Prelude.{ℕ, pos, List, [], ◌∷◌}
use Rattle.sopl_ast.specs.Instances.{Decision, Stochastic, independent}

-- a decision from 0 to 5 with a name of one byte
abbrev pub decided : ℕ → ℕ → Decision
decided name stage = record { name = name ∷ []; index = []; lo = pos 0; hi = pos 5; stage = stage }

-- a stochastic variable with a name of one byte that is 1 or 3, which weigh 1 and 2
abbrev pub drawn : ℕ → ℕ → Stochastic
drawn name stage =
    independent (name ∷ []) [] ((record { value = pos 1; weight = pos 1 }) ∷ ((record { value = pos 3; weight = pos 2 }) ∷ [])) stage

-- x of stage 1 and y of stage 2; d, which is seen after stage 1, and e, which is seen after stage 2
abbrev pub sample_decisions : List Decision
sample_decisions = decided 120 1 ∷ (decided 121 2 ∷ [])

abbrev pub sample_stochastics : List Stochastic
sample_stochastics = drawn 100 1 ∷ (drawn 101 2 ∷ [])
