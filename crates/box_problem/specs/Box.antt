-- Boxes of cells, their parts and their points.
use Rattle.std.specs.Prelude.{◌≡◌, ℕ, ◌+◌, ◌*◌, ◌<◌, ℤ, pos, ◌≤ℤ◌, List, [], ◌∷◌, length, map, slice_index_or, slice_set}
use Rattle.std.specs.Int.{int_gap}
use Rattle.sopl_base.specs.declared.interval.Interval.{Interval}

-- the lower end and the upper end of each cell
pub record Box : Type 0 where
  pub lows : List ℤ
  pub highs : List ℤ

-- the ends of one cell; those of a cell that is not there are 0
abbrev pub low : Box → ℕ → ℤ
low b cell = slice_index_or b.lows cell (pos 0)

abbrev pub high : Box → ℕ → ℤ
high b cell = slice_index_or b.highs cell (pos 0)

-- the box with another lower end, or another upper end, of one cell
abbrev pub with_low : Box → ℕ → ℤ → Box
with_low b cell k = record { lows = slice_set b.lows cell k; highs = b.highs }

abbrev pub with_high : Box → ℕ → ℤ → Box
with_high b cell k = record { lows = b.lows; highs = slice_set b.highs cell k }

-- the box that gives each cell its interval
abbrev pub box_of : List Interval → Box
box_of intervals =
    record { lows = map (λ (i : Interval). i.lo) intervals; highs = map (λ (i : Interval). i.hi) intervals }

-- each cell has two ends, and no interval is empty
pub record IsBox (b : Box) : Type 0 where
  pub paired : length b.highs ≡ length b.lows
  pub ordered : (cell : ℕ) → cell < length b.lows → low b cell ≤ℤ high b cell

-- a part of a box: a box of the same cells, each within its interval there
pub record Inside (part whole : Box) : Type 0 where
  pub is_box : IsBox part
  pub same_cells : length part.lows ≡ length whole.lows
  pub from_low : (cell : ℕ) → cell < length part.lows → low whole cell ≤ℤ low part cell
  pub to_high : (cell : ℕ) → cell < length part.lows → high part cell ≤ℤ high whole cell

-- a point of a box: a value for each cell, within its interval
pub record InBox (b : Box) (point : List ℤ) : Type 0 where
  pub same_cells : length point ≡ length b.lows
  pub from_low : (cell : ℕ) → cell < length point → low b cell ≤ℤ slice_index_or point cell (pos 0)
  pub to_high : (cell : ℕ) → cell < length point → slice_index_or point cell (pos 0) ≤ℤ high b cell

-- each interval is one number
abbrev pub IsPoint : Box → Type 0
IsPoint b = (cell : ℕ) → cell < length b.lows → low b cell ≡ high b cell

-- how many points there are between these ends: the product of the numbers of values of the cells
abbrev pub points_between : List ℤ → List ℤ → ℕ
points_between [] highs = 1
points_between (lo ∷ lows) [] = 1
points_between (lo ∷ lows) (hi ∷ highs) = (int_gap lo hi + 1) * points_between lows highs

abbrev pub points : Box → ℕ
points b = points_between b.lows b.highs

-- how wide the intervals are, together
abbrev pub width_between : List ℤ → List ℤ → ℕ
width_between [] highs = 0
width_between (lo ∷ lows) [] = 0
width_between (lo ∷ lows) (hi ∷ highs) = int_gap lo hi + width_between lows highs

abbrev pub width : Box → ℕ
width b = width_between b.lows b.highs
