-- Which bytes are the text of a log.
use Rattle.std.specs.Prelude.{◌≡◌, ◌⊎◌, ℕ, ◌<◌, List, [], ◌∷◌, ◌++◌, length, codes, All}
use Rattle.log_rows.specs.declared.rows.Row.{Row}
use Rattle.log_rows.specs.declared.rows.Footer.{Footer}
use Rattle.log_rows.specs.Rows.{AreOrdered}
use Rattle.log_rows.specs.Lines.{log_lines, text_of}
use Rattle.log_rows.specs.Ranges.{RowFits, FooterFits}

-- a line ends with a line feed, or with a carriage return and a line feed
abbrev pub IsLineEnd : List ℕ → Type 0
IsLineEnd ending = (ending ≡ codes "\n") ⊎ (ending ≡ codes "\r\n")

-- the bytes are these lines, each with its end; the last line may lack it
pub data AreLines : List (List ℕ) → List ℕ → Type 0 where
  none : AreLines [] []
  last : (line : List ℕ) → AreLines (line ∷ []) line
  one_more : (line ending : List ℕ) (lines : List (List ℕ)) (rest : List ℕ) → IsLineEnd ending → AreLines lines rest
      → AreLines (line ∷ lines) (line ++ ending ++ rest)

-- the bytes are the text of a log: lines of rows that are in order, at least one, and all numbers are in range
pub record IsLogText (rows : List Row) (footer : Footer) (bytes : List ℕ) : Type 0 where
  pub lines : AreLines (log_lines rows footer) bytes
  pub ordered : AreOrdered rows
  pub some : 0 < length rows
  pub rows_fit : All RowFits rows
  pub footer_fits : FooterFits footer

-- the lines of rows in order, each with a line feed, are the text of a log
abbrev pub TextsAreLogs : Type 0
TextsAreLogs =
    (rows : List Row) (footer : Footer) → AreOrdered rows → 0 < length rows → All RowFits rows → FooterFits footer
    → IsLogText rows footer (text_of (log_lines rows footer))
