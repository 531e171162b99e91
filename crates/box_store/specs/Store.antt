-- What a store of a box is seen as.
use Rattle.std.specs.Prelude.{◌≡◌, ℕ, ◌<◌, ◌≤◌, List, [], ◌∷◌, length, Contains}
use Rattle.box_problem.specs.Box.{Box, low, high}

-- a box that is remembered, and how many changes there was room for just before that
pub record Mark : Type 0 where
  pub box : Box
  pub spare : ℕ

-- the present box, the marks from the newest to the oldest, how many changes there is room for, and the cells that were
-- tightened since the newest mark, or since the first box where there is none, in that order
pub record Store : Type 0 where
  pub box : Box
  pub marks : List Mark
  pub spare : ℕ
  pub changed : List ℕ

-- the box is that of a mark, only the older marks are left, and there is as much room as before that mark, or more
pub record IsAtMark (mark : Mark) (older : List Mark) (after : Store) : Type 0 where
  pub box : after.box ≡ mark.box
  pub marks : after.marks ≡ older
  pub spare : mark.spare ≤ after.spare

-- the store went back to the newest of the marks that there were
abbrev pub IsUndone : List Mark → Store → Type 0
IsUndone [] after = ⊥
IsUndone (mark ∷ older) after = IsAtMark mark older after

-- two boxes of the same cells, of which these are some, and each other cell has the same interval in both
pub record AgreesOutside (cells : List ℕ) (before now : Box) : Type 0 where
  pub same_lows : length now.lows ≡ length before.lows
  pub same_highs : length now.highs ≡ length before.highs
  pub exist : (cell : ℕ) → Contains cells cell → cell < length now.lows
  pub same_low : (cell : ℕ) → ¬ Contains cells cell → low now cell ≡ low before cell
  pub same_high : (cell : ℕ) → ¬ Contains cells cell → high now cell ≡ high before cell

-- outside these cells, the box is that at the newest of the marks
abbrev pub HoldsChanges : List Mark → Box → List ℕ → Type 0
HoldsChanges [] now cells = ⊥
HoldsChanges (mark ∷ older) now cells = AgreesOutside cells mark.box now
