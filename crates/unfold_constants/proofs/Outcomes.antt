-- What a function answers, against what is met and what a value is.
use Rattle.std.proofs.Common.{◌≡◌, refl, sym, ap, subst, ◌∙◌, inl, inr, ℕ, ℤ, List, Option, Some, None, is_some, Result, Ok, Err, IfOk, T, is_ok, is_err}
use Rattle.std.specs.Option.{unwrap_or}
use Rattle.sopl_base.specs.declared.fault.Fault.{Fault}
use Rattle.sopl_base.specs.declared.fault.Fault.TheVariants as fault
use Rattle.sopl_ast.specs.Numbers.{both_of}
use Rattle.sopl_ast.specs.Known.{Known}
use Rattle.sopl_ast.specs.Tree.{Tree, place_of}
use Rattle.unfold_tables.specs.declared.sets.Ends.{Ends}
use Rattle.unfold_tables.specs.Tables.{ends_in}
use Rattle.unfold_constants.specs.CountedAnswers.{Answers}
use Rattle.sopl_ast.specs.UnfoldEvents.{UnfoldEvent, first_failure}
use Rattle.unfold_tables.specs.Walks.{Walks}
use Rattle.unfold_constants.specs.Evaluation.{Step, ◌>>=◌, continued, number, checked_between, range_ends}
use Rattle.unfold_constants.proofs.Steps.{Agrees, At}

abbrev answer_or : {A B : Type 0} → A → Result A B → A
answer_or d (Ok x) = x
answer_or d (Err f) = d

abbrev fault_or : {A B : Type 0} → B → Result A B → B
fault_or d (Ok x) = d
fault_or d (Err f) = f

module _ {A B : Type 0} (view : A → B) (v : Option B) (outcome : Result (B × ℕ) Fault) (behind : ℕ) where
  -- an answer
  answered : (m : Result ℕ Fault) (x : A) → At m outcome v → outcome ≡ Ok (view x, behind) → (m ≡ Ok behind) × (v ≡ Some (view x))
  answered (Ok n) x found is =
      let same : (found.0, n) ≡ (view x, behind) = ap (answer_or (found.0, n)) (sym (found.2) ∙ is) in
      (ap (λ p. Ok p.1) same, found.1 ∙ ap (λ p. Some p.0) same)
  answered (Err f) x failed is = absurd (subst (λ r. T (is_err r)) (sym failed ∙ is) tt)

  -- a refusal or a limit
  failed_so : (m : Result ℕ Fault) (f : Fault) → At m outcome v → outcome ≡ Err f → m ≡ Err f
  failed_so (Ok n) f found is = absurd (subst (λ r. T (is_ok r)) (sym (found.2) ∙ is) tt)
  failed_so (Err g) f failed is = ap Err (ap (fault_or g) (sym failed ∙ is))

module _ {A B : Type 0} (view : A → B) {s : Step B} {ms : List UnfoldEvent} {v : Option B} (before behind : ℕ) where
  -- what was counted, and why the way ends
  pub walks_so : (result : Result A Fault) → Agrees s ms v → Answers view behind result (s before) → Walks before behind ms result
  walks_so (Ok x) a is = (answered view v (s before) behind (first_failure before ms) x (a.at before) is).0
  walks_so (Err (fault.Text r)) a is = inr (failed_so view v (s before) behind (first_failure before ms) (fault.Text r) (a.at before) is)
  walks_so (Err (fault.Limit e)) a is = inr (failed_so view v (s before) behind (first_failure before ms) (fault.Limit e) (a.at before) is)
  walks_so (Err fault.NoMemory) a is = inl refl

  -- the value
  pub worth_so : (result : Result A Fault) → Agrees s ms v → Answers view behind result (s before) → IfOk result (λ x. v ≡ Some (view x))
  worth_so (Ok x) a is = (answered view v (s before) behind (first_failure before ms) x (a.at before) is).1
  worth_so (Err f) a is = tt

-- both ends of a range
both_there : (u v : Option ℤ) (ends : ℤ × ℤ) → ◌≡◌ {A = Option (ℤ × ℤ)} (both_of (λ a b. (a, b)) u v) (Some ends) → (u ≡ Some ends.0) × (v ≡ Some ends.1)
both_there None v ends is = absurd (subst (λ o. T (is_some o)) (sym is) tt)
both_there (Some a) None ends is = absurd (subst (λ o. T (is_some o)) (sym is) tt)
both_there (Some a) (Some b) ends is =
    (ap (λ (o : Option (ℤ × ℤ)). Some (unwrap_or o ends).0) is, ap (λ (o : Option (ℤ × ℤ)). Some (unwrap_or o ends).1) is)

pub lower_so : (u v : Option ℤ) (result : Result Ends Fault) → IfOk result (λ ends. ◌≡◌ {A = Option (ℤ × ℤ)} (both_of (λ a b. (a, b)) u v) (Some (ends_in ends)))
    → IfOk result (λ ends. u ≡ Some ends.lo)
lower_so u v (Ok ends) is = (both_there u v (ends_in ends) is).0
lower_so u v (Err f) is = tt

pub upper_so : (u v : Option ℤ) (result : Result Ends Fault) → IfOk result (λ ends. ◌≡◌ {A = Option (ℤ × ℤ)} (both_of (λ a b. (a, b)) u v) (Some (ends_in ends)))
    → IfOk result (λ ends. v ≡ Some ends.hi)
upper_so u v (Ok ends) is = (both_there u v (ends_in ends) is).1
upper_so u v (Err f) is = tt

-- the ends of a range, from the values of both
pub ends_found : (result : Result Ends Fault) (known : Known) (whole : Option ℕ) (lo hi : Tree) (v w : ℕ) (a b x y : ℤ) (count first second : ℕ)
    → v ≡ unwrap_or whole (place_of lo) → w ≡ unwrap_or whole (place_of hi)
    → ◌≡◌ {A = Result (ℤ × ℕ) Fault} (number known v lo count) (Ok (a, first)) → ◌≡◌ {A = Result (ℤ × ℕ) Fault} (number known w hi first) (Ok (b, second))
    → x ≡ a → y ≡ b → Answers ends_in second result (checked_between x y second) → Answers ends_in second result (range_ends known whole lo hi count)
ends_found result known whole lo hi v w a b x y count first second p q r s is_a is_b found =
    let lower : ◌≡◌ {A = Result (ℤ × ℕ) Fault} (number known (unwrap_or whole (place_of lo)) lo count) (Ok (a, first)) = (λ i. number known (sym p i) lo count) ∙ r in
    let upper : ◌≡◌ {A = Result (ℤ × ℕ) Fault} (number known (unwrap_or whole (place_of hi)) hi first) (Ok (b, second)) = (λ i. number known (sym q i) hi first) ∙ s in
    let all : range_ends known whole lo hi count ≡ checked_between x y second =
    ap (λ o. continued o (λ l. number known (unwrap_or whole (place_of hi)) hi >>= (λ h. checked_between l h))) lower
    ∙ ap (λ o. continued o (λ h. checked_between a h)) upper
    ∙ (λ i. checked_between (sym is_a i) (sym is_b i) second) in
    subst (λ o. Answers ends_in second result o) (sym all) found
