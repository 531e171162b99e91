-- What a search of a cell has found among the first cells.
use Rattle.std.specs.Prelude.{ℕ, ℤ, ◌≤ℤ◌, ◌<ℤ◌, List, Option, None, Some}
use Rattle.brancher.specs.Choices.{AreFixed, HasMost, IsFirst}

-- the first of those with the greatest weight, or none where none has more than one value
abbrev pub FindsMost : (ℕ → ℤ) → List ℤ → List ℤ → ℕ → Option ℕ → Type 0
FindsMost weight lows highs cells None = AreFixed lows highs cells
FindsMost weight lows highs cells (Some at) = HasMost weight lows highs cells at

-- the first one that has more than one value, or none
abbrev pub FindsFirst : List ℤ → List ℤ → ℕ → Option ℕ → Type 0
FindsFirst lows highs cells None = AreFixed lows highs cells
FindsFirst lows highs cells (Some at) = IsFirst lows highs cells at

-- a cell has a greater weight than the one that was found, if any
abbrev pub Exceeds : (ℕ → ℤ) → Option ℕ → ℕ → Type 0
Exceeds weight None cell = Unit {0}
Exceeds weight (Some at) cell = weight at <ℤ weight cell

-- the weight of a cell is no greater than that of the one that was found
abbrev pub IsOutdone : (ℕ → ℤ) → Option ℕ → ℕ → Type 0
IsOutdone weight None cell = ⊥
IsOutdone weight (Some at) cell = weight cell ≤ℤ weight at
