-- What the reader's functions hand to one another: what is read of the lines that are left is what is read of all.
use Rattle.std.specs.Prelude.{◌≡◌, ℕ, ◌+◌, ◌≤◌, ◌==◌, List, ◌∷◌, ◌++◌, [], Option, None, Some, if◌then◌else◌}
use Rattle.sopl_base.specs.declared.reason.Step.{Step}
use Rattle.sopl_base.specs.declared.fault.Fault.{Fault}
use Rattle.log_rows.specs.declared.rows.Parent.{Parent}
use Rattle.log_rows.specs.declared.rows.Row.{Row}
use Rattle.log_rows.specs.declared.rows.EndLine.{EndLine}
use Rattle.log_rows.specs.Rows.{depth_at}
use Rattle.log_rows.specs.Accepted.{greatest_depth}
use Rattle.log_tree.specs.declared.reading.Heading.{Heading}
use Rattle.log_tree.specs.Words.{letter_of}
use Rattle.log_tree.specs.LineOf.{HeadingFits, heading_line}
use Rattle.log_tree.specs.Reads.{LogOutcome, ReadsFrom, RefusedAs, IsNextNode, ended_row, row_with_steps}

-- behind these steps, these lines have what is left of a row's body, and then those lines: as the row is then read, so it is now
pub record IsRowBody (before : List Step) (n : ℕ) (lines : List (List ℕ)) (steps : List Step) (end : EndLine) (m : ℕ) (left : List (List ℕ)) : Type 0 where
  pub leads : (rows : List Row) (parent : Option Parent) (out : LogOutcome) → ReadsFrom (rows ++ ended_row (row_with_steps parent steps) end ∷ []) None m left out
      → ReadsFrom rows (Some (row_with_steps parent before)) n lines out

-- a mistake in what is left of a row's body
pub record RefusesBody (before : List Step) (n : ℕ) (lines : List (List ℕ)) (fault : Fault) : Type 0 where
  pub refuses : (rows : List Row) (parent : Option Parent) → RefusedAs (ReadsFrom rows (Some (row_with_steps parent before)) n lines) fault

-- how many lines at the front begin as a step's line does
abbrev pub steps_ahead : List (List ℕ) → ℕ
steps_ahead [] = 0
steps_ahead (line ∷ lines) = if letter_of line == 115 then steps_ahead lines + 1 else 0

-- a node that is placed rightly, at this depth
pub record IsPlacedNode (rows : List Row) (heading : Heading) (depth : ℕ) : Type 0 where
  pub next : IsNextNode rows heading
  pub depth_is : depth ≡ depth_at rows heading.parent
  pub shallow : depth ≤ greatest_depth

-- a mistake in the lines behind these rows
pub record RefusesRows (rows : List Row) (n : ℕ) (lines : List (List ℕ)) (fault : Fault) : Type 0 where
  pub refuses : RefusedAs (ReadsFrom rows None n lines) fault

-- a mistake at a node's line, whatever stands behind it
pub record RefusesNode (rows : List Row) (n : ℕ) (heading : Heading) (fault : Fault) : Type 0 where
  pub refuses : (line : List ℕ) (lines : List (List ℕ)) → HeadingFits heading → heading_line heading ≡ line → RefusedAs (ReadsFrom rows None n (line ∷ lines)) fault
