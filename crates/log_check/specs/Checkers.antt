-- The room of a checker.
use Rattle.std.specs.Prelude.{◌≡◌, ℕ, ◌+◌, ◌≤◌, List, [], ◌∷◌, length, vec_capacity}
use Rattle.log_rows.specs.declared.rows.Row.{Row}
use Rattle.log_check.specs.declared.checker.Checker.{Checker}
use Rattle.log_check.specs.Walks.{lines_of}

-- a checker is at rest, with no mark and no side that waits, and has room for the lines and the nodes of a log of these rows, and a time
-- for each cell
pub record HasRoomFor (checker : Checker) (rows : List Row) : Type 0 where
  pub marks : checker.walk.store.marks ≡ []
  pub none : checker.walk.later.items ≡ []
  pub lines : 2 + lines_of rows ≤ checker.lines
  pub nodes : length rows ≤ checker.nodes
  pub spare : checker.lines ≤ checker.walk.store.spare
  pub later : checker.nodes ≤ vec_capacity checker.walk.later
  pub sides : checker.nodes ≤ vec_capacity checker.sides
  pub cells : length checker.walk.sums.changes.last.items ≡ length checker.walk.store.box.lows

-- it has room for each log for which it had room before
pub record KeepsRoom (old new : Checker) : Type 0 where
  pub kept : (rows : List Row) → HasRoomFor old rows → HasRoomFor new rows

-- how many steps rows have
abbrev pub steps_of : List Row → ℕ
steps_of [] = 0
steps_of (row ∷ rows) = length row.steps + steps_of rows

-- it has room for each log with no more steps and no more nodes than one for which it has room
abbrev pub SmallerLogsHaveRoom : Type 0
SmallerLogsHaveRoom =
    (checker : Checker) (rows smaller : List Row) → HasRoomFor checker rows → steps_of smaller ≤ steps_of rows → length smaller ≤ length rows
    → HasRoomFor checker smaller
