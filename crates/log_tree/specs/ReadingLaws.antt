-- What is read of bytes is what they are the text of.
use Rattle.std.specs.Prelude.{◌≡◌, ℕ, ◌<◌, ◌≤◌, ◌^◌, List, length}
use Rattle.log_rows.specs.declared.rows.Row.{Row}
use Rattle.log_rows.specs.declared.rows.Footer.{Footer}
use Rattle.log_rows.specs.Rows.{depth_of}
use Rattle.log_rows.specs.Accepted.{greatest_depth}
use Rattle.log_rows.specs.LogText.{IsLogText}
use Rattle.log_tree.specs.Reads.{LogOutcome, read, IsReading}

abbrev pub NoneTooDeep : List Row → Type 0
NoneTooDeep rows = (i : ℕ) → i < length rows → depth_of rows i ≤ greatest_depth

-- what is read is the text of these rows, none of which lies too deep
abbrev pub ReadingsAreTexts : Type 0
ReadingsAreTexts = (rows : List Row) (footer : Footer) (bytes : List ℕ) → IsReading bytes (read rows footer) → IsLogText rows footer bytes × NoneTooDeep rows

-- and the reverse
abbrev pub TextsAreRead : Type 0
TextsAreRead = (rows : List Row) (footer : Footer) (bytes : List ℕ) → IsLogText rows footer bytes → NoneTooDeep rows → length rows ≤ 2 ^ 64 → IsReading bytes (read rows footer)

-- nothing else is read of the same bytes
abbrev pub ReadingsAreUnique : Type 0
ReadingsAreUnique = (bytes : List ℕ) (a b : LogOutcome) → IsReading bytes a → IsReading bytes b → a ≡ b
