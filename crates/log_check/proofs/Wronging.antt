-- The wrong lines of a row, of which the first one is told.
use Rattle.std.proofs.Common.{◌≡◌, ◌∙◌, inl, inr, ◌<◌, ◌≤◌, ◌+◌, ℕ, zero, suc, ℤ, List, [], ◌∷◌, length, take, Option, Some, refl, sym, ap, subst, arith}
use Rattle.std.specs.Prelude.{slice_get}
use Rattle.std.proofs.Math.Seq.{take-length}
use Rattle.std.proofs.lemmas.Bool.{cases_lt}
use Rattle.std.proofs.lemmas.Option.{slice_get_within}
use Rattle.sopl_base.specs.declared.reason.Step.{Step}
use Rattle.box_problem.specs.Box.{Box}
use Rattle.box_problem.specs.BoxProblem.{BoxProblem}
use Rattle.box_problem.specs.Steps.{after_step, after_steps}
use Rattle.box_problem.specs.Rightness.{IsRight, AllRight}
use Rattle.log_rows.specs.declared.rows.Row.{Row}
use Rattle.log_rows.specs.declared.rows.Footer.{Footer}
use Rattle.log_rows.specs.Rows.{row_at, start_of, final_of, AreOrdered}
use Rattle.log_rows.specs.Accepted.{claimed, RightEnd}
use Rattle.log_rows.proofs.Places.{final_is}
use Rattle.log_check.specs.Verdicts.{first_line, IsWrongStep}
use Rattle.log_check.specs.Walks.{IsWrongRow, IsWrongHere, at_step, at_end}
use Rattle.log_check.proofs.Lines.{first_next, first_grows}

-- of right steps each is right on the box that those before it leave
pub right_before : (problem : BoxProblem) (v : Option ℤ) (b : Box) (steps : List Step) (n k : ℕ) (s : Step) → AllRight problem v b (take n steps) → k < n → slice_get steps k ≡ Some s
    → IsRight problem v (after_steps b (take k steps)) s
right_before problem v b [] n k s all less is = absurd (cc)
right_before problem v b (x ∷ steps) zero k s all less is = absurd (omega (arith, less))
right_before problem v b (x ∷ steps) (suc n) zero s all less is = subst (IsRight problem v b) (inside is) all.0
  where
    inside : {a c : Step} → Some a ≡ Some c → a ≡ c
    inside e = cc
right_before problem v b (x ∷ steps) (suc n) (suc k) s all less is = right_before problem v (after_step b x) steps n k s all.1 (omega (arith, less)) is

module _ (problem : BoxProblem) (rows : List Row) (footer : Footer) (ordered : AreOrdered rows) (i : ℕ) (b : Box) (exists : i < length rows) (begins : b ≡ start_of problem.root rows i) where
  final_here : final_of problem.root rows i ≡ after_steps b (row_at rows i).steps
  final_here = final_is problem.root rows i exists (ordered i exists) ∙ ap (λ x. after_steps x (row_at rows i).steps) (sym begins)

  pub wrong_told : (line : ℕ) → IsWrongHere problem rows footer i b line → IsWrongRow problem rows footer i line
  wrong_told _ (at_step k bad) = inl (
      record {
        k = k;
        step = bad.step;
        exists = exists;
        is = bad.is;
        line_is = refl;
        wrong = λ right. bad.wrong (subst (λ x. IsRight problem (claimed footer) (after_steps x (take k (row_at rows i).steps)) bad.step) (sym begins) right);
      }
      )
  wrong_told _ (at_end bad) = inr (
      record {
        exists = exists;
        line_is = refl;
        wrong = λ right. bad.wrong (subst (λ x. RightEnd problem footer x rows i (row_at rows i).end) final_here right);
      }
      )

  -- no other line of the row is wrong before it
  not_before : (n : ℕ) → AllRight problem (claimed footer) b (take n (row_at rows i).steps) → (line : ℕ) (other : IsWrongStep problem rows footer i line) → ¬ other.k < n
  not_before n all line other less =
      other.wrong (subst (λ x. IsRight problem (claimed footer) (after_steps x (take other.k (row_at rows i).steps)) other.step) begins
      (right_before problem (claimed footer) b (row_at rows i).steps n other.k other.step all less other.is))

  pub wrong_first : (line : ℕ) → IsWrongHere problem rows footer i b line → (l : ℕ) → IsWrongRow problem rows footer i l → line ≤ l
  wrong_first _ (at_step k bad) l (inl other) =
      elim (cases_lt other.k k) [
        | inl less ↦ absurd (not_before k bad.before l other less)
        | inr more ↦ omega (arith, more, other.line_is)
      ]
  wrong_first _ (at_step k bad) l (inr other) =
      let within : k < length (row_at rows i).steps = slice_get_within (row_at rows i).steps k bad.step bad.is in
      omega (arith, within, other.line_is)
  wrong_first _ (at_end bad) l (inl other) =
      let within : other.k < length (row_at rows i).steps = slice_get_within (row_at rows i).steps other.k other.step other.is in
      absurd (not_before (length (row_at rows i).steps) (subst (AllRight problem (claimed footer) b) (sym (take-length (row_at rows i).steps)) bad.steps) l other within)
  wrong_first _ (at_end bad) l (inr other) = omega (arith, other.line_is)

  -- nor is a line of a later row
  at_most_end : (line : ℕ) → IsWrongHere problem rows footer i b line → line ≤ first_line rows i + 1 + length (row_at rows i).steps
  at_most_end _ (at_step k bad) = let within : k < length (row_at rows i).steps = slice_get_within (row_at rows i).steps k bad.step bad.is in omega (arith, within)
  at_most_end _ (at_end bad) = omega arith

  pub wrong_before : (line k : ℕ) → IsWrongHere problem rows footer i b line → i < k → line ≤ first_line rows k
  wrong_before line k wrong less = omega (arith, at_most_end line wrong, first_next rows i exists, first_grows rows (i + 1) k (omega (arith, less)))

  pub wrong_later : (line k l : ℕ) → IsWrongHere problem rows footer i b line → i < k → IsWrongRow problem rows footer k l → line ≤ l
  wrong_later line k l wrong less (inl other) = omega (arith, wrong_before line k wrong less, other.line_is)
  wrong_later line k l wrong less (inr other) = omega (arith, wrong_before line k wrong less, other.line_is)
