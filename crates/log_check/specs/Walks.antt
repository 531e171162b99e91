-- A walk along the rows of a log, from the root down: which rows are left, and what is known of the others.
use Rattle.std.specs.Prelude.{◌≡◌, ◌⊎◌, ℕ, ◌+◌, ◌-◌, ◌^◌, ◌<◌, ◌≤◌, true, List, [], ◌∷◌, length, map, Option, None, Some, IfSome, nat_lt, if◌then◌else◌}
use Rattle.std.specs.List.{AllByRecursion}
use Rattle.sopl_base.specs.declared.reason.Side.{Side}
use Rattle.sopl_base.specs.declared.reason.Side.TheVariants.{Le, Ge}
use Rattle.box_problem.specs.Box.{Box, Inside}
use Rattle.box_problem.specs.BoxProblem.{BoxProblem}
use Rattle.box_problem.specs.Steps.{IsCut, narrowed, cut_away}
use Rattle.log_rows.specs.declared.rows.Cut.{Cut}
use Rattle.log_rows.specs.declared.rows.Row.{Row}
use Rattle.log_rows.specs.declared.rows.Footer.{Footer}
use Rattle.log_rows.specs.declared.rows.EndLine.TheVariants.{Split}
use Rattle.log_rows.specs.Rows.{row_at, start_of, final_of}
use Rattle.log_rows.specs.Accepted.{claimed, RightRow}
use Rattle.log_check.specs.declared.tally.Tally.{Tally}
use Rattle.log_check.specs.declared.walk.WrongLine.{WrongLine}
use Rattle.log_check.specs.Verdicts.{first_line, IsWrongStep, IsWrongEnd}
use Rattle.log_check.specs.Judged.{IsFirstBad, IsWrongEndHere, ReachesClaim, TouchesBound, PassesBound}
use Rattle.log_check.specs.Sides.{IsSideOf, side_of}

-- a row is in a list of rows
abbrev pub IsAmong : ℕ → List ℕ → Type 0
IsAmong k [] = ⊥
IsAmong k (i ∷ rows) = (k ≡ i) ⊎ IsAmong k rows

-- a row's parent is this one
pub record IsChild (rows : List Row) (k i : ℕ) : Type 0 where
  pub side : Side
  pub is : (row_at rows k).parent ≡ side_of i side

-- a row is one of these, or below one of them
pub data IsAmongOrBelow (rows : List Row) (pending : List ℕ) : ℕ → Type 0 where
  here : (k : ℕ) → IsAmong k pending → IsAmongOrBelow rows pending k
  below : (k i : ℕ) → IsChild rows k i → IsAmongOrBelow rows pending i → IsAmongOrBelow rows pending k

-- of each row this is known, or it is left to be looked at
pub record CoversRows (rows : List Row) (Done : ℕ → Type 0) (pending : List ℕ) : Type 0 where
  pub each : (k : ℕ) → k < length rows → Done k ⊎ IsAmongOrBelow rows pending k

-- a line of a row is wrong
abbrev pub IsWrongRow : BoxProblem → List Row → Footer → ℕ → ℕ → Type 0
IsWrongRow problem rows footer node line = IsWrongStep problem rows footer node line ⊎ IsWrongEnd problem rows footer node line

-- the first wrong line of a row that begins with this box
pub data IsWrongHere (problem : BoxProblem) (rows : List Row) (footer : Footer) (i : ℕ) (b : Box) : ℕ → Type 0 where
  at_step : (k : ℕ) → IsFirstBad problem (claimed footer) b (row_at rows i).steps k → IsWrongHere problem rows footer i b (first_line rows i + 1 + k)
  at_end : IsWrongEndHere problem rows footer i b → IsWrongHere problem rows footer i b (first_line rows i + 1 + length (row_at rows i).steps)

-- a line that was found is at most this one
abbrev pub AtMost : Option WrongLine → ℕ → Type 0
AtMost None line = ⊥
AtMost (Some found) line = found.line ≤ line

-- the earlier one of a wrong line and the one that was found before, if any
abbrev pub earlier_line : Option WrongLine → WrongLine → WrongLine
earlier_line None new = new
earlier_line (Some found) new = if nat_lt new.line found.line then new else found

-- what a row adds to the last line is kept
pub record IsTallied (problem : BoxProblem) (rows : List Row) (footer : Footer) (tally : Tally) (k : ℕ) : Type 0 where
  pub reached : ReachesClaim problem footer (final_of problem.root rows k) (row_at rows k).end → tally.reached ≡ true
  pub touched : TouchesBound problem footer (final_of problem.root rows k) (row_at rows k).end → tally.touched ≡ true
  pub passed : PassesBound problem footer (final_of problem.root rows k) (row_at rows k).end → tally.passed ≡ true

-- of a row no line before the one that was found is wrong; where none was found, it is right and is counted
pub record IsSettledRow (problem : BoxProblem) (rows : List Row) (footer : Footer) (least : Option WrongLine) (tally : Tally) (k : ℕ) : Type 0 where
  pub settled : (line : ℕ) → IsWrongRow problem rows footer k line → AtMost least line
  pub right : least ≡ None → RightRow problem footer rows k × IsTallied problem rows footer tally k

-- some row is so
abbrev pub HasRow : List Row → (ℕ → Type 0) → Type 0
HasRow rows P = (k : ℕ) × (k < length rows) × P k

-- what is kept is so of some row
pub record IsWitnessed (problem : BoxProblem) (rows : List Row) (footer : Footer) (tally : Tally) : Type 0 where
  pub reached : tally.reached ≡ true → HasRow rows (λ k. ReachesClaim problem footer (final_of problem.root rows k) (row_at rows k).end)
  pub touched : tally.touched ≡ true → HasRow rows (λ k. TouchesBound problem footer (final_of problem.root rows k) (row_at rows k).end)
  pub passed : tally.passed ≡ true → HasRow rows (λ k. PassesBound problem footer (final_of problem.root rows k) (row_at rows k).end)

-- a row, and the box with which it begins
pub record RowStart : Type 0 where
  pub row : ℕ
  pub at : Box

abbrev pub starts_at : ℕ → Box → RowStart
starts_at row b = record { row = row; at = b }

abbrev pub rows_in : List RowStart → List ℕ
rows_in starts = map (λ (s : RowStart). s.row) starts

-- the row exists, and this is the box with which it begins, inside the root
pub record BeginsWell (root : Box) (rows : List Row) (start : RowStart) : Type 0 where
  pub exists : start.row < length rows
  pub is : start.at ≡ start_of root rows start.row
  pub inside : Inside start.at root

-- how a walk stands: the rows that it has before it, the wrong line that it found, and what it keeps for the last line
pub record WalkStands (problem : BoxProblem) (rows : List Row) (footer : Footer) (starts : List RowStart) (least : Option WrongLine) (tally : Tally) : Type 0 where
  pub begin : AllByRecursion (BeginsWell problem.root rows) starts
  pub covers : CoversRows rows (IsSettledRow problem rows footer least tally) (rows_in starts)
  pub found : IfSome least (λ w. IsWrongRow problem rows footer w.node w.line)
  pub witnessed : IsWitnessed problem rows footer tally

-- how a walk goes on behind a right row: to its two sides where it is split, else to what waits
pub data GoesOn (rows : List Row) (i : ℕ) (b : Box) (before : List RowStart) : List RowStart → Type 0 where
  leaf : ((cut : Cut) → ¬ (row_at rows i).end ≡ Split cut) → GoesOn rows i b before before
  parts : (cut : Cut) (low high : ℕ) → (row_at rows i).end ≡ Split cut → IsCut b cut.cell Le cut.k → IsSideOf rows i Le low → IsSideOf rows i Ge high
      → GoesOn rows i b before (starts_at low (narrowed b cut.cell Le cut.k) ∷ starts_at high (cut_away b cut.cell Le cut.k) ∷ before)

-- what a walk has left: the rows that are before it weigh less the later they stand
abbrev pub work_left : ℕ → List RowStart → ℕ
work_left n [] = 0
work_left n (s ∷ starts) = 3 ^ (n - s.row) + work_left n starts

-- how many lines rows have
abbrev pub lines_of : List Row → ℕ
lines_of [] = 0
lines_of (row ∷ rows) = 2 + length row.steps + lines_of rows
