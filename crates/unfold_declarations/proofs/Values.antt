-- What a call answers, where its value is known.
use Rattle.std.proofs.Common.{◌≡◌, refl, sym, ap, subst, ◌∙◌, ◌⊎◌, inl, inr, ℕ, ℤ, pos, Bool, true, false, true≢false, List, length, Option, Some, Result, Ok, Err, IfOk}
use Rattle.std.specs.Option.{unwrap_or}
use Rattle.sopl_base.specs.declared.fault.Fault.{Fault}
use Rattle.sopl_base.specs.declared.fault.Fault.TheVariants as fault
use Rattle.sopl_base.specs.declared.codes.TheConstants as codes
use Rattle.sopl_ast.specs.UnfoldEvents.{UnfoldEvent, first_failure, too_many}
use Rattle.unfold_constants.specs.CountedAnswers.{Answers, Fails}
use Rattle.unfold_tables.specs.Walks.{Walks}
use Rattle.unfold_declarations.specs.Declaring.{behind, reached}

-- the answer shows the value
pub value_is : {A B : Type 0} (view : A → B) (v : B) (result : Result A Fault) → IfOk result (λ x. Some v ≡ Some (view x)) → IfOk result (λ x. view x ≡ v)
value_is view v (Ok x) is = sym (ap (λ o. unwrap_or o v) is)
value_is view v (Err f) is = tt

-- the answer shows an end that is there
pub end_is : {A : Type 0} (v : Option ℤ) (view : A → ℤ) (result : Result A Fault) → IfOk result (λ x. v ≡ Some (view x)) → IfOk result (λ x. view x ≡ unwrap_or v (pos 0))
end_is v view (Ok x) is = sym (ap (λ o. unwrap_or o (pos 0)) is)
end_is v view (Err f) is = tt

-- whether memory was wanted
abbrev no_memory : Fault → Bool
no_memory (fault.Text refusal) = false
no_memory (fault.Limit excess) = false
no_memory fault.NoMemory = true

-- what is met, and then an answer
module _ {A B : Type 0} (view : A → B) (x : B) (before after : ℕ) (events : List UnfoldEvent) where
  failed : (f : Fault) → no_memory f ≡ false → (f ≡ fault.NoMemory) ⊎ (first_failure before events ≡ Err f) → reached events x before ≡ Err f
  failed f other (inl is) = absurd (true≢false (sym (ap no_memory is) ∙ other))
  failed f other (inr is) = ap (behind x) is

  pub reached_so : (result : Result A Fault) → Walks before after events result → IfOk result (λ a. x ≡ view a) → Answers view after result (reached events x before)
  reached_so (Ok a) walks is = ap (behind x) walks ∙ ap (λ y. Ok (y, after)) is
  reached_so (Err (fault.Text r)) walks is = failed (fault.Text r) refl walks
  reached_so (Err (fault.Limit e)) walks is = failed (fault.Limit e) refl walks
  reached_so (Err fault.NoMemory) walks is = tt

-- a value that is there, or what stands for it where there is none
pub worth_is : {A B : Type 0} (view : A → B) (v : Option B) (d : B) (result : Result A Fault) → IfOk result (λ x. v ≡ Some (view x)) → IfOk result (λ x. unwrap_or v d ≡ view x)
worth_is view v d (Ok x) is = ap (λ o. unwrap_or o d) is
worth_is view v d (Err f) is = tt

-- a thing that is counted
pub counted_so : (result : Result (Unit {0}) Fault) → IfOk result (λ u. tt ≡ u)
counted_so (Ok u) = refl
counted_so (Err f) = tt

-- there are few numbers
pub few_found : (numbers : List ℤ) (n count : ℕ) → n ≡ length numbers → first_failure count (too_many codes.NUMBERS n) ≡ Ok count
    → ◌≡◌ {A = Result (List ℤ × ℕ) Fault} (reached (too_many codes.NUMBERS (length numbers)) numbers count) (Ok (numbers, count))
few_found numbers n count is h = ap (behind numbers) ((λ i. first_failure count (too_many codes.NUMBERS (sym is i))) ∙ h)

-- there are too many
pub few_fails : (numbers : List ℤ) (n count : ℕ) (f : Fault) → n ≡ length numbers → (f ≡ fault.NoMemory) ⊎ (first_failure count (too_many codes.NUMBERS n) ≡ Err f)
    → Fails {B = List ℤ × ℕ} f (reached (too_many codes.NUMBERS (length numbers)) numbers count)
few_fails numbers n count f is (inl memory) = subst (λ g. Fails {B = List ℤ × ℕ} g (reached (too_many codes.NUMBERS (length numbers)) numbers count)) (sym memory) tt
few_fails numbers n count f is (inr h) = of_fault f ((λ i. first_failure count (too_many codes.NUMBERS (sym is i))) ∙ h)
  where
    of_fault : (g : Fault) → first_failure count (too_many codes.NUMBERS (length numbers)) ≡ Err g → Fails {B = List ℤ × ℕ} g (reached (too_many codes.NUMBERS (length numbers)) numbers count)
    of_fault (fault.Text r) p = ap (behind numbers) p
    of_fault (fault.Limit e) p = ap (behind numbers) p
    of_fault fault.NoMemory p = tt
