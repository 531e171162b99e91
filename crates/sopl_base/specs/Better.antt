-- Which of two values of an objective is better.
use Rattle.std.specs.Prelude.{ℤ, ◌<ℤ◌}
use Rattle.sopl_base.specs.declared.direction.Direction.{Direction}
use Rattle.sopl_base.specs.declared.direction.Direction.TheVariants.{Minimize, Maximize, Nothing}

-- a lesser value when minimizing, a greater one when maximizing; without an objective no value is better
abbrev pub IsBetter : Direction → ℤ → ℤ → Type 0
IsBetter Minimize a b = a <ℤ b
IsBetter Maximize a b = b <ℤ a
IsBetter Nothing a b = ⊥
