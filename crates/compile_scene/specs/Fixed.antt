-- Which values are constants.
use Rattle.std.specs.Prelude.{Bool, true, false}
use Rattle.compile_names.specs.declared.origins.Origin.{Origin}
use Rattle.compile_names.specs.declared.origins.Origin.TheVariants.{Fixed, Drawn, Decided}

-- a value is a constant
abbrev pub is_fixed : Origin → Bool
is_fixed (Fixed z) = true
is_fixed (Drawn j) = false
is_fixed (Decided j) = false
