-- The decisions and the stochastic variables of the tests.
use Rattle.std.specs.Prelude.{ℕ, ℤ, pos, [], ◌∷◌}
use Rattle.sopl_ast.specs.Instances.{Decision, Stochastic, independent}

-- a decision from 0 to `hi`
abbrev pub decided : ℤ → ℕ → Decision
decided hi stage = record { name = []; index = []; lo = pos 0; hi = hi; stage = stage }

-- a stochastic variable that is 1 with one weight, or 3 with another
abbrev pub drawn : ℤ → ℤ → ℕ → Stochastic
drawn one three stage =
    independent [] [] ((record { value = pos 1; weight = one }) ∷ ((record { value = pos 3; weight = three }) ∷ [])) stage
