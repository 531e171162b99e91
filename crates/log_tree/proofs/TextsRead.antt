-- The text of rows in order is read as these rows.
use Rattle.std.proofs.Common.{◌≡◌, ◌∙◌, ◌<◌, ◌≤◌, ◌+◌, ◌^◌, ℕ, suc, List, [], ◌∷◌, ◌++◌, length, map, Option, Some, None, refl, sym, ap, subst, arith, append_assoc}
use Rattle.std.specs.List.{AllByRecursion}
use Rattle.std.proofs.lemmas.List.{length-append, append-nil}
use Rattle.sopl_base.specs.declared.reason.Step.{Step}
use Rattle.log_rows.specs.declared.rows.Parent.{Parent}
use Rattle.log_rows.specs.declared.rows.Row.{Row}
use Rattle.log_rows.specs.declared.rows.EndLine.{EndLine}
use Rattle.log_rows.specs.declared.rows.Footer.{Footer}
use Rattle.log_rows.specs.Rows.{Hangs, AreOrdered, depth_of, depth_at}
use Rattle.log_rows.specs.Accepted.{greatest_depth}
use Rattle.log_rows.proofs.Places.{row_last, hangs_prefix, depth_stays, depth_last}
use Rattle.log_rows.specs.Lines.{step_line, end_line, footer_line, rows_lines}
use Rattle.log_rows.specs.Ranges.{StepFits, EndFits, FooterFits}
use Rattle.log_tree.specs.declared.reading.Heading.{Heading}
use Rattle.log_tree.specs.LineOf.{heading_line}
use Rattle.log_tree.specs.Reads.{LogOutcome, read, ReadsFrom, node, step, ended, claim, row_with_steps, ended_row}
use Rattle.log_tree.specs.ReadingLaws.{NoneTooDeep}
use Rattle.log_tree.proofs.CleanLines.{RowFitsToo}

-- the body of a row, and then what stands behind it
body_read : (rows : List Row) (parent : Option Parent) (before steps : List Step) (end : EndLine) (n : ℕ) (behind : List (List ℕ)) (out : LogOutcome)
    → AllByRecursion StepFits steps → EndFits end
    → ((m : ℕ) → ReadsFrom (rows ++ ended_row (row_with_steps parent (before ++ steps)) end ∷ []) None m behind out)
    → ReadsFrom rows (Some (row_with_steps parent before)) n (map step_line steps ++ end_line end ∷ behind) out
body_read rows parent before [] end n behind out fits end_fits more =
    ended rows (row_with_steps parent before) n (end_line end) behind end out end_fits refl
    (subst (λ ss. ReadsFrom (rows ++ ended_row (row_with_steps parent ss) end ∷ []) None (n + 1) behind out) (append-nil before) (more (n + 1)))
body_read rows parent before (s ∷ steps) end n behind out fits end_fits more =
    step rows (row_with_steps parent before) n (step_line s) (map step_line steps ++ end_line end ∷ behind) s out fits.0 refl
    (body_read rows parent (before ++ s ∷ []) steps end (n + 1) behind out fits.1 end_fits
    (λ m. subst (λ ss. ReadsFrom (rows ++ ended_row (row_with_steps parent ss) end ∷ []) None m behind out) (sym (append_assoc before (s ∷ []) steps)) (more m)))

-- lines put together
pub parts : (S : List (List ℕ)) (e : List ℕ) (R F : List (List ℕ)) → ((S ++ e ∷ []) ++ R) ++ F ≡ S ++ e ∷ (R ++ F)
parts [] e R F = refl
parts (s ∷ S) e R F = ap (λ ls. s ∷ ls) (parts S e R F)

abbrev heading_of : List Row → Row → Heading
heading_of done row = record { number = length done; parent = row.parent }

abbrev behind_of : List Row → List Row → Footer → List (List ℕ)
behind_of done more footer = rows_lines (suc (length done)) more ++ footer_line footer ∷ []

pub rows_read : (done more : List Row) (n : ℕ) (footer : Footer)
    → AreOrdered (done ++ more) → NoneTooDeep (done ++ more) → AllByRecursion RowFitsToo more → FooterFits footer → 0 < length (done ++ more) → length (done ++ more) ≤ 2 ^ 64
    → ReadsFrom done None n (rows_lines (length done) more ++ footer_line footer ∷ []) (read (done ++ more) footer)
rows_read done [] n footer ordered shallow fits footer_fits some few =
    subst (λ rs. ReadsFrom done None n (footer_line footer ∷ []) (read rs footer)) (sym (append-nil done)) (claim done n (footer_line footer) footer (subst (λ rs. 0 < length rs) (append-nil done) some) footer_fits refl)
rows_read done (row ∷ more) n footer ordered shallow fits footer_fits some few =
    subst (λ ls. ReadsFrom done None n (heading_line (heading_of done row) ∷ ls) (read (done ++ row ∷ more) footer)) (sym (parts (map step_line row.steps) (end_line row.end) (rows_lines (suc (length done)) more) (footer_line footer ∷ [])))
    (node done n (heading_line (heading_of done row)) (map step_line row.steps ++ end_line row.end ∷ (behind_of done more footer)) (heading_of done row) (read (done ++ row ∷ more) footer) (record { number_fits = omega (arith, few, longer); parent_fits = fits.0.parent_fits }) refl
    (record { number = refl; hangs = hangs }) deep
    (body_read done row.parent [] row.steps row.end (n + 1) (behind_of done more footer) (read (done ++ row ∷ more) footer) fits.0.steps_fit fits.0.end_fits
    (later (λ m. rows_read (done ++ row ∷ []) more m footer (subst AreOrdered (sym same) ordered) (subst NoneTooDeep (sym same) shallow) fits.1 footer_fits
    (subst (λ rs. 0 < length rs) (sym same) some) (subst (λ rs. length rs ≤ 2 ^ 64) (sym same) few)))))
  where
    longer : length (done ++ row ∷ more) ≡ length done + suc (length more)
    longer = length-append done (row ∷ more)

    same : (done ++ row ∷ []) ++ more ≡ done ++ row ∷ more
    same = append_assoc done (row ∷ []) more

    one_more : length (done ++ row ∷ []) ≡ suc (length done)
    one_more = omega (arith, length-append done (row ∷ []))

    hangs : Hangs done (length done) row.parent
    hangs = hangs_prefix done (row ∷ more) (length done) row.parent (omega arith) (subst (λ (r : Row). Hangs (done ++ row ∷ more) (length done) r.parent) (row_last done row more) (ordered (length done) (omega (arith, longer))))

    deep : depth_at done row.parent ≤ greatest_depth
    deep = subst (λ d. d ≤ greatest_depth)
        (ap (λ rs. depth_of rs (length done)) (sym same) ∙ depth_stays (done ++ row ∷ []) more (length done) (omega (arith, one_more)) ∙ depth_last done row)
        (shallow (length done) (omega (arith, longer)))

    later : ((m : ℕ) → ReadsFrom (done ++ row ∷ []) None m (rows_lines (length (done ++ row ∷ [])) more ++ footer_line footer ∷ []) (read ((done ++ row ∷ []) ++ more) footer))
        → (m : ℕ) → ReadsFrom (done ++ ended_row (row_with_steps row.parent ([] ++ row.steps)) row.end ∷ []) None m (behind_of done more footer) (read (done ++ row ∷ more) footer)
    later again m = subst (λ k. ReadsFrom (done ++ row ∷ []) None m (rows_lines k more ++ footer_line footer ∷ []) (read (done ++ row ∷ more) footer)) one_more
        (subst (λ rs. ReadsFrom (done ++ row ∷ []) None m (rows_lines (length (done ++ row ∷ [])) more ++ footer_line footer ∷ []) (read rs footer)) same (again m))
