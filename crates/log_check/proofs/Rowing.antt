-- A row that is judged.
use Rattle.std.proofs.Common.{◌≡◌, ◌∙◌, ◌<◌, ◌≤◌, ◌+◌, ◌-◌, ◌^◌, ℕ, List, length, get_or, Fits, w64, Option, sym, ap, subst, arith, rules}
use Rattle.std.proofs.lemmas.List.{get_or_default}
use Rattle.std.proofs.lemmas.Option.{slice_get_within}
use Rattle.sopl_base.specs.declared.reason.Step.{Step}
use Rattle.box_problem.specs.Box.{Box}
use Rattle.box_problem.specs.Rightness.{AllRight}
use Rattle.box_problem.specs.Steps.{after_steps}
use Rattle.log_rows.specs.declared.rows.Row.{Row}
use Rattle.log_rows.specs.Rows.{row_at, no_row}
use Rattle.log_rows.specs.Accepted.{RightEnd, claimed}
use Rattle.log_check.specs.declared.view.LogView.{LogView}
use Rattle.log_check.specs.Judged.{IsFirstBad, IsWrongEndHere}
use Rattle.log_check.specs.Sides.{sides_at}
use Rattle.log_check.specs.Verdicts.{first_line}
use Rattle.log_check.specs.Views.{IsLogView, checked_problem}
use Rattle.log_check.specs.Walks.{IsWrongHere, at_step, at_end}
use Rattle.log_check.proofs.Lines.{first_next, first_grows}

module _ (view : LogView) (ready : IsLogView view) (i : ℕ) (exists : i < length view.rows.now) where
  pub line_fits : (k : ℕ) → k ≤ length (row_at view.rows.now i).steps → Fits w64 ((sides_at view.sides.now i).line + 1 + k)
  line_fits k within =
      let bound : (sides_at view.sides.now i).line + 1 + k < 2 ^ 64 =
      omega (arith, within, ready.sides.lines i exists, first_next view.rows.now i exists, first_grows view.rows.now (i + 1) (length view.rows.now) (omega (arith, exists)), ready.fits) in
      search (arith, rules)

  pub first_fits : Fits w64 ((sides_at view.sides.now i).line + 1)
  first_fits =
      let bound : (sides_at view.sides.now i).line + 1 < 2 ^ 64 =
      omega (arith, ready.sides.lines i exists, first_next view.rows.now i exists, first_grows view.rows.now (i + 1) (length view.rows.now) (omega (arith, exists)), ready.fits) in
      search (arith, rules)

  pub row_steps : (row : Row) (steps : List Step) → steps ≡ (get_or view.rows.now i row).steps → steps ≡ (row_at view.rows.now i).steps
  row_steps row steps items = items ∙ ap (λ (r : Row). r.steps) (get_or_default view.rows.now i row no_row exists)

  pub bad_within : (v : Option _) (b : Box) (steps : List Step) (k : ℕ) → IsFirstBad (checked_problem view) v b steps k → steps ≡ (row_at view.rows.now i).steps → k < length (row_at view.rows.now i).steps
  bad_within v b steps k bad are = subst (λ (list : List Step). k < length list) are (slice_get_within steps k bad.step bad.is)

  pub wrong_step_here : (claim : Option _) (b : Box) (steps : List Step) (k : ℕ) → claim ≡ claimed view.footer.now → IsFirstBad (checked_problem view) claim b steps k → steps ≡ (row_at view.rows.now i).steps
      → IsWrongHere (checked_problem view) view.rows.now view.footer.now i b ((sides_at view.sides.now i).line + 1 + k)
  wrong_step_here claim b steps k claims bad are =
      subst (λ n. IsWrongHere (checked_problem view) view.rows.now view.footer.now i b (n + 1 + k)) (sym (ready.sides.lines i exists))
      (at_step k (subst (λ (list : List Step). IsFirstBad (checked_problem view) (claimed view.footer.now) b list k) are (subst (λ v. IsFirstBad (checked_problem view) v b steps k) claims bad)))

  pub wrong_end_here : (claim : Option _) (b after : Box) (steps : List Step) → claim ≡ claimed view.footer.now → AllRight (checked_problem view) claim b steps → after ≡ after_steps b steps → steps ≡ (row_at view.rows.now i).steps
      → ¬ RightEnd (checked_problem view) view.footer.now after view.rows.now i (row_at view.rows.now i).end
      → IsWrongHere (checked_problem view) view.rows.now view.footer.now i b ((sides_at view.sides.now i).line + 1 + length steps)
  wrong_end_here claim b after steps claims right leads are wrong =
      subst (λ (list : List Step). IsWrongHere (checked_problem view) view.rows.now view.footer.now i b ((sides_at view.sides.now i).line + 1 + length list)) (sym are)
      (subst (λ n. IsWrongHere (checked_problem view) view.rows.now view.footer.now i b (n + 1 + length (row_at view.rows.now i).steps)) (sym (ready.sides.lines i exists)) (at_end here))
    where
      here : IsWrongEndHere (checked_problem view) view.rows.now view.footer.now i b
      here = record {
        steps = subst (AllRight (checked_problem view) (claimed view.footer.now) b) are (subst (λ v. AllRight (checked_problem view) v b steps) claims right);
        wrong = λ is. wrong (subst (λ x. RightEnd (checked_problem view) view.footer.now x view.rows.now i (row_at view.rows.now i).end) (sym (leads ∙ ap (after_steps b) are)) is);
      }

-- the last line
module _ (view : LogView) (ready : IsLogView view) (some : 0 < length view.rows.now) (r : Row) (steps : List Step) (are : steps ≡ (get_or view.rows.now (length view.rows.now - 1) r).steps) where
  last_exists : length view.rows.now - 1 < length view.rows.now
  last_exists = omega (arith, some)

  pub last_line : (sides_at view.sides.now (length view.rows.now - 1)).line + 2 + length steps ≡ first_line view.rows.now (length view.rows.now)
  last_line =
      let same : length steps ≡ length (row_at view.rows.now (length view.rows.now - 1)).steps = ap length are ∙ ap (λ (x : Row). length x.steps) (get_or_default view.rows.now (length view.rows.now - 1) r no_row last_exists) in
      let next : first_line view.rows.now (length view.rows.now) ≡ first_line view.rows.now (length view.rows.now - 1 + 1) = ap (first_line view.rows.now) (omega (arith, some)) in
      omega (arith, ready.sides.lines (length view.rows.now - 1) last_exists, same, next, first_next view.rows.now (length view.rows.now - 1) last_exists)

  pub last_fits : Fits w64 ((sides_at view.sides.now (length view.rows.now - 1)).line + 2 + length steps)
  last_fits = let bound : (sides_at view.sides.now (length view.rows.now - 1)).line + 2 + length steps < 2 ^ 64 = omega (arith, last_line, ready.fits) in search (arith, rules)

  pub last_begins : Fits w64 ((sides_at view.sides.now (length view.rows.now - 1)).line + 2)
  last_begins = let bound : (sides_at view.sides.now (length view.rows.now - 1)).line + 2 < 2 ^ 64 = omega (arith, last_line, ready.fits) in search (arith, rules)
