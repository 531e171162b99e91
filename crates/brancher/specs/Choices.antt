-- What a brancher chooses among cells.
use Rattle.std.specs.Prelude.{◌≡◌, ◌^◌, ℕ, ◌<◌, ℤ, pos, neg_ℤ, ◌+ℤ◌, ◌-ℤ◌, ◌*ℤ◌, ◌≤ℤ◌, ◌<ℤ◌, true, List, length, slice_index_or, Option, None, Some}
use Rattle.brancher.specs.declared.choice.Choice.{Choice}
use Rattle.brancher.specs.Rules.{Rule, lower, widest, free}

-- the lower end or the upper end of a cell, from the list of all of them
abbrev pub cell_end : List ℤ → ℕ → ℤ
cell_end ends cell = slice_index_or ends cell (pos 0)

-- the ends of so many cells, below 2^32: no interval is empty, and all lie within 2^40
pub record AreEnds (lows highs : List ℤ) : Type 0 where
  pub paired : length highs ≡ length lows
  pub few : length lows < 2 ^ 32
  pub ordered : (cell : ℕ) → cell < length lows → cell_end lows cell ≤ℤ cell_end highs cell
  pub above : (cell : ℕ) → cell < length lows → neg_ℤ (pos (2 ^ 40)) ≤ℤ cell_end lows cell
  pub below : (cell : ℕ) → cell < length lows → cell_end highs cell ≤ℤ pos (2 ^ 40)

-- the cell has more than one value
abbrev pub IsUnfixed : List ℤ → List ℤ → ℕ → Type 0
IsUnfixed lows highs cell = cell_end lows cell <ℤ cell_end highs cell

-- no cell among the first ones has more than one value
abbrev pub AreFixed : List ℤ → List ℤ → ℕ → Type 0
AreFixed lows highs cells = (cell : ℕ) → cell < cells → cell_end lows cell ≡ cell_end highs cell

-- among the first cells this one has more than one value, and no one before it has
pub record IsFirst (lows highs : List ℤ) (cells at : ℕ) : Type 0 where
  pub exists : at < cells
  pub unfixed : IsUnfixed lows highs at
  pub first : AreFixed lows highs at

-- among the first cells that have more than one value this one has the greatest weight, and it is the first of those
pub record HasMost (weight : ℕ → ℤ) (lows highs : List ℤ) (cells at : ℕ) : Type 0 where
  pub exists : at < cells
  pub unfixed : IsUnfixed lows highs at
  pub most : (cell : ℕ) → cell < cells → IsUnfixed lows highs cell → weight cell ≤ℤ weight at
  pub first : (cell : ℕ) → cell < at → IsUnfixed lows highs cell → weight cell <ℤ weight at

-- how far the ends of a cell are apart
abbrev pub cell_width : List ℤ → List ℤ → ℕ → ℤ
cell_width lows highs cell = cell_end highs cell -ℤ cell_end lows cell

-- the middle between two numbers, rounded towards the lesser one
pub record IsMidpoint (lo k hi : ℤ) : Type 0 where
  pub from_low : lo ≤ℤ k
  pub below_high : k <ℤ hi
  pub half : (pos 2 *ℤ (k -ℤ lo)) ≤ℤ (hi -ℤ lo)
  pub rounded : (hi -ℤ lo) ≤ℤ (pos 2 *ℤ (k -ℤ lo) +ℤ pos 1)

-- the middle of a cell's interval
abbrev pub IsHalf : List ℤ → List ℤ → Choice → Type 0
IsHalf lows highs choice = IsMidpoint (cell_end lows choice.cell) choice.cut (cell_end highs choice.cell)

-- the first cell that has more than one value, cut at its least value, that half first
pub record IsLower (lows highs : List ℤ) (choice : Choice) : Type 0 where
  pub cell : IsFirst lows highs (length lows) choice.cell
  pub cut : choice.cut ≡ cell_end lows choice.cell
  pub low_first : choice.low_first ≡ true

-- the first of the cells with this greatest weight, cut in the middle, the low half first
pub record IsMostHalved (weight : ℕ → ℤ) (lows highs : List ℤ) (choice : Choice) : Type 0 where
  pub cell : HasMost weight lows highs (length lows) choice.cell
  pub cut : IsHalf lows highs choice
  pub low_first : choice.low_first ≡ true

-- a choice of this kind, or none where no cell has more than one value
abbrev pub Chooses : (Choice → Type 0) → List ℤ → List ℤ → Option Choice → Type 0
Chooses Kind lows highs None = AreFixed lows highs (length lows)
Chooses Kind lows highs (Some choice) = Kind choice

-- what a brancher of a rule answers
abbrev pub ChoosesBy : Rule → List ℤ → List ℤ → Option Choice → Type 0
ChoosesBy lower lows highs answer = Chooses (IsLower lows highs) lows highs answer
ChoosesBy widest lows highs answer = Chooses (IsMostHalved (cell_width lows highs) lows highs) lows highs answer
ChoosesBy free lows highs answer = Unit {0}
