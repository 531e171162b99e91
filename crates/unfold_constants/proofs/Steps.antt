-- Steps against what is met and what a value is: where a refusal or a limit is met, the step answers it; else there is a value, and the step answers it.
use Rattle.std.proofs.Common.{◌≡◌, refl, sym, ap, subst, ℕ, ◌+◌, nat_lt, nat_le, ℤ, pos, Bool, true, false, cond, List, [], ◌∷◌, ◌++◌, Option, Some, None, Result, Ok, Err, inl, inr, T, is_ok, ◌⊎◌}
use Rattle.std.proofs.lemmas.List.{append_assoc}
use Rattle.sopl_base.specs.declared.fault.Fault.{Fault}
use Rattle.sopl_base.specs.declared.fault.Fault.TheVariants.{Limit, NoMemory}
use Rattle.sopl_base.specs.declared.codes.TheConstants as codes
use Rattle.sopl_ast.specs.Numbers.{count_between}
use Rattle.sopl_ast.specs.UnfoldEvents.{UnfoldEvent, Counted, Passed, excess, first_failure, most_counted, most_numbers, no_value, too_many}
use Rattle.unfold_laws.proofs.Passing.{behind, met_append}
use Rattle.unfold_constants.specs.CountedAnswers.{Fails}
use Rattle.unfold_constants.specs.Evaluation.{Step, ◌>>=◌, continued, done, given, count_one, checked_between}

-- what is met, an outcome and a value agree
abbrev pub At : {A : Type 0} → Result ℕ Fault → Result (A × ℕ) Fault → Option A → Type 0
At {A} (Ok n) outcome v = (x : A) × (v ≡ Some x) × (outcome ≡ Ok (x, n))
At (Err f) outcome v = outcome ≡ Err f

pub record Agrees {A : Type 0} (step : Step A) (events : List UnfoldEvent) (v : Option A) : Type 0 where
  pub at : (count : ℕ) → At (first_failure count events) (step count) v

-- a step that agrees with occurrences agrees with equal ones
pub agree_events : {A : Type 0} {s : Step A} {ms ns : List UnfoldEvent} {v : Option A} → ms ≡ ns → Agrees s ms v → Agrees s ns v
agree_events {A} {s} {ms} {ns} {v} is a = subst (λ events. Agrees s events v) is a

pub agree_value : {A : Type 0} {s : Step A} {ms : List UnfoldEvent} {v w : Option A} → v ≡ w → Agrees s ms v → Agrees s ms w
agree_value {A} {s} {ms} is a = subst (λ u. Agrees s ms u) is a

-- an answer at once
pub agree_done : {A : Type 0} (x : A) (v : Option A) → v ≡ Some x → Agrees (done x) [] v
agree_done x v is = record { at = λ count. (x, is, refl) }

-- one step behind another
pub agree_bind : {A B : Type 0} {s : Step A} {next : A → Step B} {ms ns : List UnfoldEvent} {v : Option A} {w : Option B}
    → Agrees s ms v → ((x : A) → v ≡ Some x → Agrees (next x) ns w) → Agrees (s >>= next) (ms ++ ns) w
agree_bind {A} {B} {s} {next} {ms} {ns} {v} {w} a b =
    record { at = λ count. subst (λ m. At m ((s >>= next) count) w) (sym (met_append count ms ns)) (on count (first_failure count ms) (a.at count)) }
  where
    on : (count : ℕ) (m : Result ℕ Fault) → At m (s count) v → At (behind m ns) ((s >>= next) count) w
    on count (Ok n) found =
        subst (λ outcome. At (first_failure n ns) outcome w) (sym (ap (λ outcome. continued outcome next) found.2)) ((b found.0 found.1).at n)
    on count (Err f) failed = ap (λ outcome. continued outcome next) failed

-- a step, and two behind it
pub agree_bind_two : {A B C : Type 0} {s : Step A} {next : A → Step B} {last : B → Step C} {ms ns ks : List UnfoldEvent} {v : Option A} {w : Option B} {u : Option C}
    → Agrees s ms v → ((x : A) → v ≡ Some x → Agrees (next x) ns w) → ((y : B) → w ≡ Some y → Agrees (last y) ks u)
    → Agrees ((s >>= next) >>= last) (ms ++ (ns ++ ks)) u
agree_bind_two {A} {B} {C} {s} {next} {last} {ms} {ns} {ks} a b c = agree_events (append_assoc ms ns ks) (agree_bind (agree_bind a b) c)

-- what is made of one answer
pub agree_then : {A B : Type 0} {s : Step A} {ms : List UnfoldEvent} {v : Option A} {w : Option B} (g : A → B)
    → Agrees s ms v → ((x : A) → v ≡ Some x → w ≡ Some (g x)) → Agrees (s >>= (λ x. done (g x))) ms w
agree_then {A} {B} {s} {ms} {v} {w} g a is = record { at = λ count. on count (first_failure count ms) (a.at count) }
  where
    on : (count : ℕ) (m : Result ℕ Fault) → At m (s count) v → At m ((s >>= (λ x. done (g x))) count) w
    on count (Ok n) found = (g found.0, is found.0 found.1, ap (λ outcome. continued outcome (λ x. done (g x))) found.2)
    on count (Err f) failed = ap (λ outcome. continued outcome (λ x. done (g x))) failed

-- what is made of two answers
pub agree_both : {A B C : Type 0} {s : Step A} {t : Step B} {ms ns : List UnfoldEvent} {v : Option A} {u : Option B} {w : Option C} (g : A → B → C)
    → Agrees s ms v → Agrees t ns u → ((x : A) (y : B) → v ≡ Some x → u ≡ Some y → w ≡ Some (g x y))
    → Agrees (s >>= (λ x. t >>= (λ y. done (g x y)))) (ms ++ ns) w
agree_both g a b is = agree_bind a (λ x p. agree_then (g x) b (λ y q. is x y p q))

-- 110
pub agree_given : (whole : ℕ) (v : Option ℤ) → Agrees (given whole v) (no_value v whole) v
agree_given whole None = record { at = λ count. refl }
agree_given whole (Some x) = record { at = λ count. (x, refl, refl) }

-- nothing more is answered
abbrev pub counted : Option (Unit {0})
counted = Some tt

-- one thing more is counted
pub agree_count : Agrees count_one (Counted ∷ []) counted
agree_count = record { at = λ count. on count (nat_lt count most_counted) }
  where
    on : (count : ℕ) (b : Bool) → At (cond b (Ok (count + 1)) (Err (Limit (excess codes.UNFOLDING (pos (most_counted + 1)) (pos most_counted)))))
        (cond b (Ok (tt, count + 1)) (Err (Limit (excess codes.UNFOLDING (pos (most_counted + 1)) (pos most_counted))))) counted
    on count true = (tt, refl, refl)
    on count false = refl

-- 208
abbrev too_long : ℤ → ℤ → UnfoldEvent
too_long lo hi = Passed (excess codes.NUMBERS (pos (count_between lo hi)) (pos most_numbers))

pub agree_checked : (lo hi : ℤ) → Agrees (checked_between lo hi) (too_many codes.NUMBERS (count_between lo hi)) (Some (lo, hi))
agree_checked lo hi = record { at = λ count. on count (nat_le (count_between lo hi) most_numbers) }
  where
    on : (count : ℕ) (b : Bool)
        → At {A = ℤ × ℤ} (first_failure count (cond b [] (too_long lo hi ∷ [])))
        (cond b (Ok ((lo, hi), count)) (Err (Limit (excess codes.NUMBERS (pos (count_between lo hi)) (pos most_numbers))))) (Some (lo, hi))
    on count true = ((lo, hi), refl, refl)
    on count false = refl

-- a fault that is there
abbrev fault_in : {A : Type 0} → Fault → Result A Fault → Fault
fault_in other (Ok x) = other
fault_in other (Err f) = f

-- there are few numbers
pub checked_met : (lo hi : ℤ) (count : ℕ) → first_failure count (too_many codes.NUMBERS (count_between lo hi)) ≡ Ok count
    → ◌≡◌ {A = Result ((ℤ × ℤ) × ℕ) Fault} (checked_between lo hi count) (Ok ((lo, hi), count))
checked_met lo hi count = on (nat_le (count_between lo hi) most_numbers)
  where
    on : (b : Bool) → first_failure count (cond b [] (too_long lo hi ∷ [])) ≡ Ok count
        → ◌≡◌ {A = Result ((ℤ × ℤ) × ℕ) Fault} (cond b (Ok ((lo, hi), count)) (Err (Limit (excess codes.NUMBERS (pos (count_between lo hi)) (pos most_numbers))))) (Ok ((lo, hi), count))
    on true is = refl
    on false is = absurd (subst (λ r. T (is_ok r)) (sym is) tt)

-- there are too many
pub checked_failed : (lo hi : ℤ) (count : ℕ) (fault : Fault) → (fault ≡ NoMemory) ⊎ (first_failure count (too_many codes.NUMBERS (count_between lo hi)) ≡ Err fault)
    → Fails {B = (ℤ × ℤ) × ℕ} fault (checked_between lo hi count)
checked_failed lo hi count fault (inl is) = subst (λ f. Fails {B = (ℤ × ℤ) × ℕ} f (checked_between lo hi count)) (sym is) tt
checked_failed lo hi count fault (inr is) = on (nat_le (count_between lo hi) most_numbers) is
  where
    on : (b : Bool) → first_failure count (cond b [] (too_long lo hi ∷ [])) ≡ Err fault
        → Fails {B = (ℤ × ℤ) × ℕ} fault (cond b (Ok ((lo, hi), count)) (Err (Limit (excess codes.NUMBERS (pos (count_between lo hi)) (pos most_numbers)))))
    on true is = absurd (subst (λ r. T (is_ok r)) is tt)
    on false is = subst (λ f. Fails {B = (ℤ × ℤ) × ℕ} f (Err (Limit (excess codes.NUMBERS (pos (count_between lo hi)) (pos most_numbers))))) (ap (fault_in fault) is) refl
