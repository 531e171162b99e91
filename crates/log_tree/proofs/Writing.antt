-- What is written of a log is its text, and is read as it.
use Rattle.std.proofs.Common.{subst, arith, ℕ, ◌+◌, ◌<◌, ◌≤◌, ◌^◌, List, length, get_or, take, All}
use Rattle.std.proofs.lemmas.List.{take_all}
use Rattle.std.proofs.lemmas.List.Elements.{All-more}
use Rattle.log_rows.specs.declared.rows.Footer.{Footer}
use Rattle.log_rows.specs.declared.rows.Row.{Row}
use Rattle.log_rows.specs.Rows.{AreOrdered}
use Rattle.log_rows.specs.Lines.{log_lines, text_of}
use Rattle.log_rows.specs.Ranges.{FooterFits, RowFits}
use Rattle.log_rows.proofs.LogTexts.{texts_are_logs}
use Rattle.log_tree.specs.ReadingLaws.{NoneTooDeep}
use Rattle.log_tree.specs.Reads.{IsReading, read}
use Rattle.log_tree.proofs.Texts.{texts_are_read}

-- What fits, one by one.

pub fit_more : {A : Type 0} → (P : A → Type 0) (xs : List A) (i : ℕ) (d : A) → i < length xs → All P (take i xs) → P (get_or xs i d) → All P (take (i + 1) xs)
fit_more P xs i d exists before fits = All-more P xs i d exists before fits

pub fit_all : {A : Type 0} → (P : A → Type 0) (xs : List A) (i : ℕ) → length xs ≤ i → All P (take i xs) → All P xs
fit_all P xs i all before = subst (All P) (take_all i xs all) before

-- A whole log.

pub written_read : (rows : List Row) (footer : Footer) → AreOrdered rows → 0 < length rows → All RowFits rows → FooterFits footer → length rows < 2 ^ 64
    → NoneTooDeep rows → IsReading (text_of (log_lines rows footer)) (read rows footer)
written_read rows footer ordered some fit footer_fits few shallow =
    texts_are_read rows footer (text_of (log_lines rows footer)) (texts_are_logs rows footer ordered some fit footer_fits) shallow (omega (arith, few))
