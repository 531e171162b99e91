-- Better and worse values, and lists of which one element has a property.
use Rattle.std.proofs.Common.{ℤ, arith}
use Rattle.std.proofs.lemmas.Int.{ints}
use Rattle.sopl_base.specs.declared.direction.Direction.{Direction}
use Rattle.sopl_base.specs.declared.direction.Direction.TheVariants.{Minimize, Maximize, Nothing}
use Rattle.sopl_base.specs.Better.{IsBetter}

pub better_twice : (direction : Direction) (x y z : ℤ) → IsBetter direction x y → IsBetter direction y z → IsBetter direction x z
better_twice Minimize x y z first second = omega (arith, ints)
better_twice Maximize x y z first second = omega (arith, ints)
better_twice Nothing x y z first second = first
