-- Which of several numbers is taken.
use Rattle.std.specs.Prelude.{ℤ}
use Rattle.std.specs.Int.{int_min, int_max}
use Rattle.sopl_base.specs.declared.extreme.Extreme.{Extreme}
use Rattle.sopl_base.specs.declared.extreme.Extreme.TheVariants.{Least, Greatest}

-- the one that is taken of two numbers
abbrev pub chosen_by : Extreme → ℤ → ℤ → ℤ
chosen_by Least = int_min
chosen_by Greatest = int_max
