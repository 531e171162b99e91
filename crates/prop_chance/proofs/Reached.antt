-- What several things mention, one after the other.
use Rattle.std.proofs.Common.{◌≡◌, ℕ, zero, suc, ◌+◌, ◌<◌, List, [], ◌∷◌, IfSome, slice_get, length, inl, inr, arith, subst}
use Rattle.std.specs.List.{AllByRecursion, flat_map}
use Rattle.std.specs.Option.{option_map_or}
use Rattle.std.proofs.lemmas.Bool.{cases_lt}
use Rattle.std.proofs.lemmas.List.Elements.{Contains-append_cases}
use Rattle.prop_shave.specs.Probes.{HasAll}

-- what each of so many things mentions is in a set
abbrev pub AreIn : (ℕ → List ℕ) → ℕ → List ℕ → Type 0
AreIn mention n set = (k : ℕ) → k < n → HasAll set (mention k)

pub more_in : (mention : ℕ → List ℕ) (n : ℕ) (old new : List ℕ) → AreIn mention n old → HasAll new old → HasAll new (mention n) → AreIn mention (n + 1) new
more_in mention n old new before kept here = λ k below.
    elim (cases_lt k n) [
      | inl earlier ↦ λ cell there. kept cell (before k earlier cell there)
      | inr later ↦ subst (λ (i : ℕ). HasAll new (mention i)) (let same : n ≡ k = omega (arith, below, later) in same) here
    ]

-- what all of a list mention
pub flat_in : {A : Type 0} (f : A → List ℕ) (xs : List A) (set : List ℕ) → ((k : ℕ) → k < length xs → HasAll set (option_map_or f (slice_get xs k) [])) → HasAll set (flat_map f xs)
flat_in f [] set each = λ cell here. absurd (omega (arith, here.1))
flat_in f (x ∷ xs) set each = λ cell here.
    elim (Contains-append_cases (f x) (flat_map f xs) cell here) [
      | inl first ↦ each zero (omega arith) cell first
      | inr later ↦ flat_in f xs set (λ k below. each (suc k) (omega (arith, below))) cell later
    ]

pub none_mentioned : (set : List ℕ) → HasAll set []
none_mentioned set = λ cell here. absurd (omega (arith, here.1))

-- what is true of all is true of what stands at a place
pub at_place : {A : Type 0} (P : A → Type 0) (xs : List A) (i : ℕ) → AllByRecursion P xs → IfSome (slice_get xs i) P
at_place P [] i all = tt
at_place P (x ∷ xs) zero all = all.0
at_place P (x ∷ xs) (suc i) all = at_place P xs i all.1
