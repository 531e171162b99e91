-- The line at which each row begins, and the rows that are its sides.
use Rattle.std.specs.Prelude.{◌≡◌, ℕ, ◌<◌, List, length, slice_index_or, slice_set, Option, None, Some}
use Rattle.sopl_base.specs.declared.reason.Side.{Side}
use Rattle.sopl_base.specs.declared.reason.Side.TheVariants.{Le, Ge}
use Rattle.log_rows.specs.declared.rows.Parent.{Parent}
use Rattle.log_rows.specs.declared.rows.Row.{Row}
use Rattle.log_rows.specs.Rows.{row_at}
use Rattle.log_check.specs.declared.sides.Sides.{Sides}
use Rattle.log_check.specs.Verdicts.{first_line}

-- a row of which nothing is known
abbrev pub no_sides : Sides
no_sides = record { line = 0; low = None; high = None }

-- what is known of the row with a number, and its low or its high side
abbrev pub sides_at : List Sides → ℕ → Sides
sides_at sides i = slice_index_or sides i no_sides

abbrev pub side_row : Sides → Side → Option ℕ
side_row sides Le = sides.low
side_row sides Ge = sides.high

-- the parent of a side of a row
abbrev pub side_of : ℕ → Side → Option Parent
side_of i side = Some (record { node = i; side = side })

-- a row is this side of another one
pub record IsSideOf (rows : List Row) (i : ℕ) (side : Side) (j : ℕ) : Type 0 where
  pub exists : j < length rows
  pub parent : (row_at rows j).parent ≡ side_of i side

-- of the first rows, each has its first line and those of its sides that are among them
pub record AreSidesTo (rows : List Row) (n : ℕ) (sides : List Sides) : Type 0 where
  pub each : length sides ≡ n
  pub lines : (i : ℕ) → i < n → (sides_at sides i).line ≡ first_line rows i
  pub told : (i j : ℕ) (side : Side) → i < n → j < n → (row_at rows j).parent ≡ side_of i side → side_row (sides_at sides i) side ≡ Some j
  pub are : (i j : ℕ) (side : Side) → i < n → side_row (sides_at sides i) side ≡ Some j → (j < n) × ((row_at rows j).parent ≡ side_of i side)

-- so of all rows
abbrev pub AreSides : List Row → List Sides → Type 0
AreSides rows sides = AreSidesTo rows (length rows) sides

-- with a side more
abbrev pub with_row : Sides → Side → ℕ → Sides
with_row sides Le j = record { line = sides.line; low = Some j; high = sides.high }
with_row sides Ge j = record { line = sides.line; low = sides.low; high = Some j }

abbrev pub with_side : List Sides → Option Parent → ℕ → List Sides
with_side sides None j = sides
with_side sides (Some parent) j = slice_set sides parent.node (with_row (sides_at sides parent.node) parent.side j)

-- a row that begins at a line, and has no sides yet
abbrev pub row_begins : ℕ → Sides
row_begins line = record { line = line; low = None; high = None }

-- the parent is among the first n rows
abbrev pub IsParentWithin : ℕ → Option Parent → Type 0
IsParentWithin n None = Unit {0}
IsParentWithin n (Some parent) = parent.node < n
