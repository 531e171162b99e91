-- What is kept of the rows for the last line.
use Rattle.std.proofs.Common.{◌≡◌, ◌∙◌, ◌⊎◌, ◌↔◌, inl, inr, ℤ, Bool, true, false, ◌||◌, Option, None, Some, IsTrue, int_eq, refl, sym, ap, subst}
use Rattle.std.specs.Bool.{Decides}
use Rattle.std.proofs.lemmas.Bool.Decides.{Decides-int_eq}
use Rattle.sopl_base.specs.declared.direction.Direction.{Direction}
use Rattle.sopl_base.specs.Better.{IsBetter}
use Rattle.sopl_base.proofs.Options.{some_equal}
use Rattle.log_check.specs.Judged.{Passes}

pub same_is : (number : Option ℤ) (value end : ℤ) (result : Bool) → number ≡ Some value → result ≡ int_eq value end → Decides result (number ≡ Some end)
same_is number value end result at is = (λ holds. at ∙ ap (λ (x : ℤ). Some x) ((Decides-int_eq value end).0 (sym is ∙ holds)), λ same. is ∙ (Decides-int_eq value end).1 (some_equal (sym at ∙ same)))

pub none_is : (number : Option ℤ) (end : ℤ) → number ≡ None → Decides false (number ≡ Some end)
none_is number end at = (λ holds. absurd (cc), λ same. let clash : None ≡ Some end = sym at ∙ same in absurd (cc))

pub passes_is : (direction : Direction) (bound : Option ℤ) (value end : ℤ) (result : Bool) → bound ≡ Some value → IsTrue result ↔ IsBetter direction end value → Decides result (Passes direction end bound)
passes_is direction bound value end result at is = subst (λ (o : Option ℤ). Decides result (Passes direction end o)) (sym at) (decided result is)
  where
    decided : (r : Bool) → IsTrue r ↔ IsBetter direction end value → Decides r (IsBetter direction end value)
    decided r is = (λ holds. is.0 holds, λ better. is.1 better)

pub passes_none : (direction : Direction) (bound : Option ℤ) (end : ℤ) → bound ≡ None → Decides false (Passes direction end bound)
passes_none direction bound end at = subst (λ (o : Option ℤ). Decides false (Passes direction end o)) (sym at) (λ holds. absurd (cc), λ none. absurd none)

pub either : (P : Type 0) (old here new : Bool) → Decides here P → new ≡ (old || here) → Decides new ((old ≡ true) ⊎ P)
either P true here new decides is = (λ holds. inl refl, λ any. is)
either P false here new decides is = (λ holds. inr (decides.0 (sym is ∙ holds)), told)
  where
    told : (false ≡ true) ⊎ P → new ≡ true
    told (inl clash) = absurd (cc)
    told (inr p) = is ∙ decides.1 p
