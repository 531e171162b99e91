-- What a trail of changes says of the boxes before them; the entries stand from the newest to the oldest.
use Rattle.std.specs.Prelude.{◌≡◌, ℕ, ◌+◌, ◌<◌, ◌≤◌, List, [], ◌∷◌, ◌++◌, length}
use Rattle.box_problem.specs.Box.{Box, IsBox, with_low, with_high}
use Rattle.box_store.specs.declared.trail.Entry.{Entry}
use Rattle.box_store.specs.declared.trail.Entry.TheVariants.{Low, High, Marked}
use Rattle.box_store.specs.Store.{Mark}

-- the marks among the entries, with the box at each, which the later entries give back
abbrev pub marks_of : Box → List Entry → List Mark
marks_of b [] = []
marks_of b (Low end ∷ older) = marks_of (with_low b end.cell end.k) older
marks_of b (High end ∷ older) = marks_of (with_high b end.cell end.k) older
marks_of b (Marked before ∷ older) = record { box = b; spare = before.spare } ∷ marks_of b older

-- the cells of the changes since the newest mark, from the oldest change to the newest
abbrev pub changed_of : List Entry → List ℕ
changed_of [] = []
changed_of (Low end ∷ older) = changed_of older ++ end.cell ∷ []
changed_of (High end ∷ older) = changed_of older ++ end.cell ∷ []
changed_of (Marked before ∷ older) = []

-- the cells of the changes before the newest mark
abbrev pub changed_before : List Entry → List ℕ
changed_before [] = []
changed_before (Low end ∷ older) = changed_before older
changed_before (High end ∷ older) = changed_before older
changed_before (Marked before ∷ older) = changed_before older ++ changed_of older

abbrev pub all_changed : List Entry → List ℕ
all_changed entries = changed_before entries ++ changed_of entries

-- each end that is given back is that of a cell, and gives a box; and a mark keeps how many changes there were at the one before it
abbrev pub AreSound : Box → List Entry → Type 0
AreSound b [] = Unit {0}
AreSound b (Low end ∷ older) =
    (end.cell < length b.lows) × IsBox (with_low b end.cell end.k) × AreSound (with_low b end.cell end.k) older
AreSound b (High end ∷ older) =
    (end.cell < length b.lows) × IsBox (with_high b end.cell end.k) × AreSound (with_high b end.cell end.k) older
AreSound b (Marked before ∷ older) = (before.start ≡ length (changed_before older)) × AreSound b older

-- a trail that can grow to this length had the room that its marks keep
abbrev pub HadRoom : ℕ → List Entry → Type 0
HadRoom most [] = Unit {0}
HadRoom most (Low end ∷ older) = HadRoom most older
HadRoom most (High end ∷ older) = HadRoom most older
HadRoom most (Marked before ∷ older) = (before.spare + length older ≤ most) × HadRoom most older

-- the cells of all changes, how many there were at the newest mark, and the length that the trail can grow to
pub record KeepsChanges (changes : List ℕ) (start most : ℕ) (entries : List Entry) : Type 0 where
  pub all : changes ≡ all_changed entries
  pub older : start ≡ length (changed_before entries)
  pub room : HadRoom most entries
