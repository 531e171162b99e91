-- What is met on a way of several parts.
use Rattle.std.proofs.Common.{◌≡◌, refl, sym, ap, subst, ◌∙◌, ◌⊎◌, inl, inr, ℕ, List, ◌++◌, Result, Ok, Err, IsOk}
use Rattle.sopl_base.specs.declared.fault.Fault.{Fault}
use Rattle.sopl_base.specs.declared.fault.Fault.TheVariants.{NoMemory}
use Rattle.sopl_ast.specs.UnfoldEvents.{UnfoldEvent, first_failure}
use Rattle.unfold_laws.specs.Passing.{NothingFails}
use Rattle.unfold_laws.proofs.Passing.{behind, met_append}

-- behind a part that nothing stops
pub met_first : (before mid : ℕ) (first more : List UnfoldEvent) → first_failure before first ≡ Ok mid → first_failure before (first ++ more) ≡ first_failure mid more
met_first before mid first more is = met_append before first more ∙ ap (λ m. behind m more) is

-- a part that is stopped
pub stopped_first : (before : ℕ) (first more : List UnfoldEvent) (f : Fault) → (f ≡ NoMemory) ⊎ (first_failure before first ≡ Err f) → (f ≡ NoMemory) ⊎ (first_failure before (first ++ more) ≡ Err f)
stopped_first before first more f (inl memory) = inl memory
stopped_first before first more f (inr is) = inr (met_append before first more ∙ ap (λ m. behind m more) is)

pub stopped_same : (before : ℕ) (events : List UnfoldEvent) (now : Result ℕ Fault) (f : Fault) → now ≡ first_failure before events → (f ≡ NoMemory) ⊎ (now ≡ Err f)
    → (f ≡ NoMemory) ⊎ (first_failure before events ≡ Err f)
stopped_same before events now f same (inl memory) = inl memory
stopped_same before events now f same (inr is) = inr (sym same ∙ is)

pub passes_so : (events : List UnfoldEvent) (n : ℕ) → first_failure 0 events ≡ Ok n → NothingFails events
passes_so events n is = subst IsOk (sym is) refl
