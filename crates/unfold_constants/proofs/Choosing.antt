-- Choices that are open inside one another: what is left to do goes on from turn to turn.
use Rattle.std.proofs.Common.{◌≡◌, refl, sym, ap, subst, ◌∙◌, ℕ, suc, ◌+◌, ℤ, Bool, true, false, if◌then◌else◌, List, [], ◌∷◌, length}
use Rattle.std.proofs.Common.{Option, Some, None, is_some, Result, Ok, Err, is_ok, is_err, T, cond, nat_lt, pos, inl, inr, ◌⊎◌}
use Rattle.std.specs.Option.{unwrap_or}
use Rattle.sopl_base.specs.declared.fault.Fault.{Fault}
use Rattle.sopl_base.specs.declared.fault.Fault.TheVariants as variant
use Rattle.sopl_base.specs.declared.fault.Fault.TheVariants.{NoMemory}
use Rattle.sopl_base.specs.declared.codes.TheConstants as codes
use Rattle.sopl_ast.specs.Known.{Known}
use Rattle.sopl_ast.specs.UnfoldEvents.{Counted, excess, first_failure, most_counted}
use Rattle.unfold_constants.specs.Choosing.{OpenChoice, Among, advanced, left, remaining, entered, give_name, leave_name}
use Rattle.unfold_constants.specs.CountedAnswers.{Answers, Fails}
use Rattle.unfold_constants.specs.Evaluation.{Step, ◌>>=◌, continued, for_each, count_one}
use Rattle.unfold_constants.proofs.Bindings.{take_prefix}

-- a step behind a step behind a step
pub continued_twice : {A B C : Type 0} (r : Result (A × ℕ) Fault) (f : A → Step B) (g : B → Step C) → continued (continued r f) g ≡ continued r (λ x. f x >>= g)
continued_twice (Ok x) f g = refl
continued_twice (Err fault) f g = refl

abbrev unwrap_count : ℕ → Result ℕ Fault → ℕ
unwrap_count d (Ok n) = n
unwrap_count d (Err f) = d

abbrev fault_in : Result ℕ Fault → Fault
fault_in (Ok n) = NoMemory
fault_in (Err f) = f

-- a fault ends what stands behind it too
fails_on : {A B : Type 0} (fault : Fault) (r : Result (A × ℕ) Fault) (next : A → Step B) → Fails fault r → Fails fault (continued r next)
fails_on (variant.Text refusal) r next is = ap (λ outcome. continued outcome next) is
fails_on (variant.Limit excess) r next is = ap (λ outcome. continued outcome next) is
fails_on variant.NoMemory r next is = tt

-- one thing more is counted
counted_one : (count behind : ℕ) → first_failure count (Counted ∷ []) ≡ Ok behind → ◌≡◌ {A = Result (Unit {0} × ℕ) Fault} (count_one count) (Ok (tt, behind))
counted_one count behind is = on (nat_lt count most_counted) is
  where
    on : (b : Bool) → cond b (Ok (count + 1)) (Err (variant.Limit (excess codes.UNFOLDING (pos (most_counted + 1)) (pos most_counted)))) ≡ Ok behind
        → ◌≡◌ {A = Result (Unit {0} × ℕ) Fault} (cond b (Ok (tt, count + 1)) (Err (variant.Limit (excess codes.UNFOLDING (pos (most_counted + 1)) (pos most_counted))))) (Ok (tt, behind))
    on true so = ap (λ (r : Result ℕ Fault). Ok (tt, unwrap_count count r)) so
    on false so = absurd (subst (λ r. T (is_err r)) so tt)

-- one thing too many
count_fails : (count : ℕ) (fault : Fault) → (fault ≡ NoMemory) ⊎ (first_failure count (Counted ∷ []) ≡ Err fault) → Fails {B = Unit {0} × ℕ} fault (count_one count)
count_fails count fault (inl is) = subst (λ f. Fails {B = Unit {0} × ℕ} f (count_one count)) (sym is) tt
count_fails count fault (inr is) = on (nat_lt count most_counted) is
  where
    on : (b : Bool) → cond b (Ok (count + 1)) (Err (variant.Limit (excess codes.UNFOLDING (pos (most_counted + 1)) (pos most_counted)))) ≡ Err fault
        → Fails {B = Unit {0} × ℕ} fault (cond b (Ok (tt, count + 1)) (Err (variant.Limit (excess codes.UNFOLDING (pos (most_counted + 1)) (pos most_counted)))))
    on true so = absurd (subst (λ r. T (is_ok r)) so tt)
    on false so = subst (λ f. Fails {B = Unit {0} × ℕ} f (Err (variant.Limit (excess codes.UNFOLDING (pos (most_counted + 1)) (pos most_counted))))) (ap fault_in so) refl

-- a function answers the fault that it was given
pub refused : {A B : Type 0} (view : A → B) (count : ℕ) (result : Result A Fault) (fault : Fault) (outcome : Result (B × ℕ) Fault) → result ≡ Err fault → Fails fault outcome
    → Answers view count result outcome
refused view count result fault outcome is fails = subst (λ r. Answers view count r outcome) (sym is) fails

module _ {S F A : Type 0} (give : F → ℤ → S → S) (leave : F → S → S) (law : (f : F) (n : ℤ) (here : S) → leave f (give f n here) ≡ here) (inside : ℕ → S → A → Step A) where
  -- a choice takes its next number
  next_taken : (here : S) (f : F) (n : ℤ) (ns : List ℤ) (outer : List (OpenChoice F)) (found : A) (count : ℕ)
      → remaining give leave inside here (Among f (n ∷ ns) ∷ outer) found count
      ≡ (count_one >>= (λ u. entered give leave inside (give f n here) (Among f ns ∷ outer) found)) count
  next_taken here f n ns outer found count =
      ap (λ r. continued r (λ more. remaining give leave inside (left leave here outer) outer more))
      (continued_twice (count_one count) (λ u. inside (suc (length outer)) (give f n here) found) (λ more. for_each (λ m later. inside (suc (length outer)) (give f m here) later) ns more))
      ∙ continued_twice (count_one count) (λ u. inside (suc (length outer)) (give f n here) found >>= (λ more. for_each (λ m later. inside (suc (length outer)) (give f m here) later) ns more))
      (λ more. remaining give leave inside (left leave here outer) outer more)
      ∙ (λ i. continued (count_one count) (λ u count_behind.
      (continued_twice (inside (suc (length outer)) (give f n here) found count_behind) (λ more. for_each (λ m later. inside (suc (length outer)) (give f m here) later) ns more)
      (λ more. remaining give leave inside (left leave here outer) outer more)
      ∙ ap (λ s. continued (inside (suc (length outer)) (give f n here) found count_behind) (λ more. remaining give leave inside s (Among f ns ∷ outer) more)) (sym (law f n here))) i))

  -- the state and the choices of the next number
  pub turned : (here : S) (opened : List (OpenChoice F)) (next : S) (opened_next : List (OpenChoice F)) (found : A) (count : ℕ)
      → ◌≡◌ {A = Option (S × List (OpenChoice F))} (Some (next, opened_next)) (advanced give leave here opened)
      → remaining give leave inside here opened found count ≡ (count_one >>= (λ u. entered give leave inside next opened_next found)) count
  turned here [] next opened_next found count is = absurd (subst (λ o. T (is_some o)) is tt)
  turned here (Among f [] ∷ outer) next opened_next found count is = turned (left leave here outer) outer next opened_next found count is
  turned here (Among f (n ∷ ns) ∷ outer) next opened_next found count is =
      next_taken here f n ns outer found count
      ∙ ap (λ (o : Option (S × List (OpenChoice F))).
      (count_one >>= (λ u. entered give leave inside (unwrap_or o (next, opened_next)).0 (unwrap_or o (next, opened_next)).1 found)) count) (sym is)

  -- no choice has a number left
  pub ended : (here : S) (opened : List (OpenChoice F)) (found : A) (count : ℕ)
      → ◌≡◌ {A = Option (S × List (OpenChoice F))} None (advanced give leave here opened)
      → remaining give leave inside here opened found count ≡ Ok (found, count)
  ended here [] found count is = refl
  ended here (Among f [] ∷ outer) found count is = ended (left leave here outer) outer found count is
  ended here (Among f (n ∷ ns) ∷ outer) found count is = absurd (subst (λ o. T (is_some o)) (sym is) tt)

  -- the loop ends
  pub stops : (here : S) (opened : List (OpenChoice F)) (found : A) (count : ℕ) (more : Bool) (next : S) (opened_next : List (OpenChoice F)) → more ≡ false
      → ◌≡◌ {A = Option (S × List (OpenChoice F))} (if more then Some (next, opened_next) else None) (advanced give leave here opened)
      → remaining give leave inside here opened found count ≡ Ok (found, count)
  stops here opened found count more next opened_next spent is =
      ended here opened found count (sym (ap (λ (b : Bool). if b then Some (next, opened_next) else None) spent) ∙ is)

  -- a turn of the loop: a number is taken, counted, and entered
  pub turn : (here : S) (opened : List (OpenChoice F)) (found : A) (count : ℕ) (more : Bool) (next : S) (opened_next : List (OpenChoice F)) (behind : ℕ) → more ≡ true
      → ◌≡◌ {A = Option (S × List (OpenChoice F))} (if more then Some (next, opened_next) else None) (advanced give leave here opened)
      → first_failure count (Counted ∷ []) ≡ Ok behind
      → remaining give leave inside here opened found count ≡ entered give leave inside next opened_next found behind
  turn here opened found count more next opened_next behind found_more is one =
      turned here opened next opened_next found count (sym (ap (λ (b : Bool). if b then Some (next, opened_next) else None) found_more) ∙ is)
      ∙ ap (λ r. continued r (λ u. entered give leave inside next opened_next found)) (counted_one count behind one)

  -- a turn of the loop where one thing too many is counted
  pub turn_fails : (here : S) (opened : List (OpenChoice F)) (found : A) (count : ℕ) (more : Bool) (next : S) (opened_next : List (OpenChoice F)) (fault : Fault) → more ≡ true
      → ◌≡◌ {A = Option (S × List (OpenChoice F))} (if more then Some (next, opened_next) else None) (advanced give leave here opened)
      → (fault ≡ NoMemory) ⊎ (first_failure count (Counted ∷ []) ≡ Err fault)
      → Fails fault (remaining give leave inside here opened found count)
  turn_fails here opened found count more next opened_next fault found_more is one =
      subst (Fails fault)
      (sym (turned here opened next opened_next found count (sym (ap (λ (b : Bool). if b then Some (next, opened_next) else None) found_more) ∙ is)))
      (fails_on fault (count_one count) (λ u. entered give leave inside next opened_next found) (count_fails count fault one))

  -- a choice is opened inside the innermost
  pub opens : (here : S) (opened : List (OpenChoice F)) (found : A) (count : ℕ) (next : S) (opened_next : List (OpenChoice F)) (f : F) (range : Step (List ℤ)) (ns : List ℤ) (behind : ℕ)
      → inside (length opened) here found ≡ range >>= (λ numbers. for_each (λ n more. inside (suc (length opened)) (give f n here) more) numbers found)
      → range count ≡ Ok (ns, behind) → next ≡ here → opened_next ≡ Among f ns ∷ opened
      → entered give leave inside here opened found count ≡ remaining give leave inside next opened_next found behind
  opens here opened found count next opened_next f range ns behind is ranged same is_open =
      ap (λ (step : Step A). continued (step count) (λ more. remaining give leave inside (left leave here opened) opened more)) is
      ∙ ap (λ r. continued (continued r (λ numbers. for_each (λ n more. inside (suc (length opened)) (give f n here) more) numbers found))
      (λ more. remaining give leave inside (left leave here opened) opened more)) ranged
      ∙ (λ i. remaining give leave inside (sym same i) (sym is_open i) found behind)

-- a name gives its number up
pub name_left : (name : List ℕ) (n : ℤ) (known : Known) → leave_name name (give_name name n known) ≡ known
name_left name n known i = record known { bound = take_prefix known.bound (record { name = name; value = n }) i }
