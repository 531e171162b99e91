-- What is written is the text of a log.
use Rattle.std.proofs.Common.{ℕ, ◌<◌, List, [], ◌∷◌, length, codes, inl, All, refl}
use Rattle.log_rows.specs.declared.rows.Row.{Row}
use Rattle.log_rows.specs.declared.rows.Footer.{Footer}
use Rattle.log_rows.specs.Rows.{AreOrdered}
use Rattle.log_rows.specs.Lines.{log_lines, text_of}
use Rattle.log_rows.specs.Ranges.{RowFits, FooterFits}
use Rattle.log_rows.specs.LogText.{AreLines, none, one_more, IsLogText}

are_lines : (lines : List (List ℕ)) → AreLines lines (text_of lines)
are_lines [] = none
are_lines (line ∷ lines) = one_more line (codes "\n") lines (text_of lines) (inl refl) (are_lines lines)

pub texts_are_logs : (rows : List Row) (footer : Footer) → AreOrdered rows → 0 < length rows → All RowFits rows → FooterFits footer → IsLogText rows footer (text_of (log_lines rows footer))
texts_are_logs rows footer ordered some rows_fit footer_fits = record {
  lines = are_lines (log_lines rows footer);
  ordered = ordered;
  some = some;
  rows_fit = rows_fit;
  footer_fits = footer_fits;
}
