-- What a call answers, from what is met in it and what its value is.
use Rattle.std.proofs.Common.{◌≡◌, refl, sym, ap, subst, ◌∙◌, ◌⊎◌, inl, inr, ℕ, Bool, true, false, true≢false, List, Option, Some, Result, Ok, Err, IfOk, T, is_ok, is_err}
use Rattle.std.specs.Option.{unwrap_or}
use Rattle.sopl_base.specs.declared.fault.Fault.{Fault}
use Rattle.sopl_base.specs.declared.fault.Fault.TheVariants as fault
use Rattle.sopl_ast.specs.UnfoldEvents.{UnfoldEvent, first_failure}
use Rattle.unfold_constants.specs.CountedAnswers.{Answers}
use Rattle.unfold_constants.specs.Evaluation.{Step}
use Rattle.unfold_constants.proofs.Steps.{Agrees, At}
use Rattle.unfold_tables.specs.Walks.{Walks}

-- whether memory was wanted
abbrev no_memory : Fault → Bool
no_memory (fault.Text refusal) = false
no_memory (fault.Limit excess) = false
no_memory fault.NoMemory = true

abbrev count_or : ℕ → Result ℕ Fault → ℕ
count_or d (Ok n) = n
count_or d (Err f) = d

abbrev fault_or : Fault → Result ℕ Fault → Fault
fault_or d (Ok n) = d
fault_or d (Err f) = f

module _ {A B : Type 0} (view : A → B) (v : Option B) (outcome : Result (B × ℕ) Fault) (after : ℕ) where
  -- an answer
  answered : (m : Result ℕ Fault) (x : A) → At m outcome v → m ≡ Ok after → v ≡ Some (view x) → outcome ≡ Ok (view x, after)
  answered (Ok n) x found is there =
      found.2 ∙ (λ i. Ok (ap (λ o. unwrap_or o (view x)) (sym (found.1) ∙ there) i, ap (count_or n) is i))
  answered (Err f) x failed is there = absurd (subst (λ r. T (is_err r)) is tt)

  -- a refusal or a limit
  stopped : (m : Result ℕ Fault) (f : Fault) → At m outcome v → no_memory f ≡ false → (f ≡ fault.NoMemory) ⊎ (m ≡ Err f) → outcome ≡ Err f
  stopped m f found other (inl is) = absurd (true≢false (sym (ap no_memory is) ∙ other))
  stopped (Ok n) f found other (inr is) = absurd (subst (λ r. T (is_ok r)) is tt)
  stopped (Err g) f failed other (inr is) = failed ∙ ap Err (ap (fault_or g) is)

module _ {A B : Type 0} (view : A → B) {s : Step B} {ms : List UnfoldEvent} {v : Option B} (before after : ℕ) where
  -- from what is met in a call and from what its value is
  pub answers_so : (result : Result A Fault) → Agrees s ms v → Walks before after ms result → IfOk result (λ x. v ≡ Some (view x)) → Answers view after result (s before)
  answers_so (Ok x) a walks there = answered view v (s before) after (first_failure before ms) x (a.at before) walks there
  answers_so (Err (fault.Text r)) a walks there = stopped view v (s before) after (first_failure before ms) (fault.Text r) (a.at before) refl walks
  answers_so (Err (fault.Limit e)) a walks there = stopped view v (s before) after (first_failure before ms) (fault.Limit e) (a.at before) refl walks
  answers_so (Err fault.NoMemory) a walks there = tt

-- nothing more is answered
pub counted_so : (result : Result (Unit {0}) Fault) → IfOk result (λ u. Some tt ≡ Some u)
counted_so (Ok u) = refl
counted_so (Err f) = tt
