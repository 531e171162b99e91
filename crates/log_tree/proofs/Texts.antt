-- Reading and texts agree.
use Rattle.std.proofs.Common.{◌≡◌, ◌∙◌, ℕ, List, [], ◌∷◌, ◌++◌, None, refl, sym, ap, subst, arith}
use Rattle.std.specs.List.{AllByRecursion}
use Rattle.std.proofs.lemmas.List.Elements.{All-from_recursion, recursion_from_All}
use Rattle.log_rows.specs.declared.rows.Row.{Row}
use Rattle.log_rows.specs.declared.rows.Footer.{Footer}
use Rattle.log_rows.specs.Lines.{head_line, footer_line, rows_lines, log_lines}
use Rattle.log_rows.specs.Ranges.{StepFits, RowFits}
use Rattle.log_rows.specs.LogText.{AreLines}
use Rattle.log_tree.specs.Cutting.{lines_in}
use Rattle.log_tree.specs.Reads.{LogOutcome, read, ReadsLines, empty, no_head, headed}
use Rattle.log_tree.specs.ReadingLaws.{ReadingsAreTexts, TextsAreRead}
use Rattle.log_tree.proofs.Cuts.{are_lines, only_lines}
use Rattle.log_tree.proofs.CleanLines.{RowFitsToo, log_clean}
use Rattle.log_tree.proofs.TextsRead.{rows_read}
use Rattle.log_tree.proofs.ReadTexts.{AreFine, RestRows, rest_of, no_read}

fits_from : (row : Row) → RowFitsToo row → RowFits row
fits_from row fits = record { parent_fits = fits.parent_fits; steps_fit = All-from_recursion StepFits row.steps fits.steps_fit; end_fits = fits.end_fits }

fits_to : (row : Row) → RowFits row → RowFitsToo row
fits_to row fits = record { parent_fits = fits.parent_fits; steps_fit = recursion_from_All StepFits row.steps fits.steps_fit; end_fits = fits.end_fits }

each_from : (rows : List Row) → AllByRecursion RowFitsToo rows → AllByRecursion RowFits rows
each_from [] fits = tt
each_from (row ∷ rows) fits = (fits_from row fits.0, each_from rows fits.1)

each_to : (rows : List Row) → AllByRecursion RowFits rows → AllByRecursion RowFitsToo rows
each_to [] fits = tt
each_to (row ∷ rows) fits = (fits_to row fits.0, each_to rows fits.1)

record Whole (ls : List (List ℕ)) (all : List Row) (footer : Footer) : Type 0 where
  lines : List (List ℕ)
  ls_are : ls ≡ head_line ∷ lines
  rest : RestRows [] lines all footer

none_fine : AreFine []
none_fine = record { ordered = λ k exists. absurd (omega (arith, exists)); shallow = λ k exists. absurd (omega (arith, exists)) }

whole_of : (ls : List (List ℕ)) (out : LogOutcome) (all : List Row) (footer : Footer) → ReadsLines ls out → out ≡ read all footer → Whole ls all footer
whole_of _ _ all footer empty is = absurd (no_read is)
whole_of _ _ all footer (no_head line lines isnt) is = absurd (no_read is)
whole_of _ _ all footer (headed lines out reads) is = record { lines = lines; ls_are = refl; rest = rest_of [] None 2 lines out all footer reads is none_fine }

pub readings_are_texts : ReadingsAreTexts
readings_are_texts rows footer bytes reading =
    let whole = whole_of (lines_in bytes) (read rows footer) rows footer reading refl in
    let same : rows ≡ whole.rest.more = whole.rest.all_is in
    let lines : lines_in bytes ≡ log_lines rows footer =
    whole.ls_are ∙ ap (λ ls. head_line ∷ ls) (whole.rest.lines_are ∙ ap (λ rs. rows_lines 0 rs ++ footer_line footer ∷ []) (sym same)) in (
      record {
        lines = subst (λ ls. AreLines ls bytes) lines (are_lines bytes);
        ordered = whole.rest.fine.ordered;
        some = whole.rest.some;
        rows_fit = All-from_recursion RowFits rows (each_from rows (subst (AllByRecursion RowFitsToo) (sym same) whole.rest.fit));
        footer_fits = whole.rest.footer_fits;
      },
      whole.rest.fine.shallow,
    )

pub texts_are_read : TextsAreRead
texts_are_read rows footer bytes text shallow few =
    let fits : AllByRecursion RowFitsToo rows = each_to rows (recursion_from_All RowFits rows text.rows_fit) in
    let lines : lines_in bytes ≡ log_lines rows footer = only_lines (log_lines rows footer) bytes text.lines (log_clean rows footer few fits text.footer_fits) in
    subst (λ ls. ReadsLines ls (read rows footer)) (sym lines)
    (headed (rows_lines 0 rows ++ footer_line footer ∷ []) (read rows footer) (rows_read [] rows 2 footer text.ordered shallow fits text.footer_fits text.some few))
