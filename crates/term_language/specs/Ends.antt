-- Intervals of whole numbers, and the interval of each operation.
use Rattle.std.specs.Prelude.{ℕ, ℤ, pos, ◌+ℤ◌, ◌-ℤ◌, ◌*ℤ◌, ◌≤ℤ◌, int_lt, int_le, Bool, ◌&&◌, List, [], ◌∷◌, if◌then◌else◌}
use Rattle.std.specs.List.{fold}
use Rattle.std.specs.Int.{int_min, int_max}
use Rattle.std.specs.Int.RustNames.{int_div, int_rem, unsigned_abs}
use Rattle.std.specs.Ordering.{int_eq}
use Rattle.sopl_base.specs.declared.extreme.Extreme.{Extreme}
use Rattle.sopl_base.specs.Extremes.{chosen_by}
use Rattle.box_problem.specs.Box.{Box, low, high}
use Rattle.term_language.specs.declared.made.Operation.{Operation}
use Rattle.term_language.specs.declared.made.Operation.TheVariants.{Quotient, Remainder, Size}

-- all whole numbers from the lower to the upper end
pub record Ends : Type 0 where
  pub low : ℤ
  pub high : ℤ

abbrev pub ends : ℤ → ℤ → Ends
ends lo hi = record { low = lo; high = hi }

-- a number lies in the interval
abbrev pub has : Ends → ℤ → Bool
has a z = int_le a.low z && int_le z a.high

-- a number lies in the interval, as a fact
pub record Lies (z : ℤ) (a : Ends) : Type 0 where
  pub from_low : a.low ≤ℤ z
  pub to_high : z ≤ℤ a.high

-- one number alone
abbrev pub exactly : ℤ → Ends
exactly z = ends z z

-- the interval of a cell
abbrev pub cell_ends : Box → ℕ → Ends
cell_ends b cell = ends (low b cell) (high b cell)

-- sums
abbrev pub plus : Ends → Ends → Ends
plus a b = ends (a.low +ℤ b.low) (a.high +ℤ b.high)

-- the least interval with two numbers in it
abbrev pub between : ℤ → ℤ → Ends
between x y = ends (int_min x y) (int_max x y)

-- the least interval that has both
abbrev pub hull : Ends → Ends → Ends
hull a b = ends (int_min a.low b.low) (int_max a.high b.high)

-- the hull of all; of none it is 0 alone
abbrev pub hull_of : List Ends → Ends
hull_of [] = exactly (pos 0)
hull_of (a ∷ later) = fold hull a later

-- a multiple of an interval: a negative factor swaps the ends
abbrev pub scaled : ℤ → Ends → Ends
scaled k a = between (k *ℤ a.low) (k *ℤ a.high)

-- products: from the least to the greatest of the four products of ends
abbrev pub times : Ends → Ends → Ends
times a b = hull (scaled a.low b) (scaled a.high b)

-- quotients, which are cut towards 0: from the least to the greatest of the quotients of both ends
abbrev pub quotients : Ends → ℤ → Ends
quotients a c = between (int_div a.low c) (int_div a.high c)

-- remainders, which have the sign of what is divided
abbrev pub remainders : Ends → ℤ → Ends
remainders a c =
    if int_eq (int_div a.low c) (int_div a.high c) then ends (int_rem a.low c) (int_rem a.high c)
    else ends (if int_lt a.low (pos 0) then int_max a.low (pos 1 -ℤ pos (unsigned_abs c)) else pos 0)
    (if int_lt (pos 0) a.high then int_min a.high (pos (unsigned_abs c) -ℤ pos 1) else pos 0)

-- the size of a number
abbrev pub size_of : ℤ → ℤ
size_of z = pos (unsigned_abs z)

-- what a function that rises or falls on each side of 0 makes of the numbers of an interval: from the least to the greatest of what it makes of
-- both ends, and of 0 where 0 is among them
abbrev pub image : (ℤ → ℤ) → Ends → Ends
image f a =
    if has a (pos 0) then hull (exactly (f (pos 0))) (between (f a.low) (f a.high)) else between (f a.low) (f a.high)

-- what is made of a number, and of the numbers of an interval
abbrev pub made_of : Operation → ℤ → ℤ
made_of (Quotient divisor) z = int_div z divisor.number
made_of (Remainder divisor) z = int_rem z divisor.number
made_of Size z = size_of z

abbrev pub made : Operation → Ends → Ends
made (Quotient divisor) a = quotients a divisor.number
made (Remainder divisor) a = remainders a divisor.number
made Size a = image size_of a

-- the least or the greatest of the numbers of two intervals
abbrev pub picked : Extreme → Ends → Ends → Ends
picked which a b = ends (chosen_by which a.low b.low) (chosen_by which a.high b.high)
