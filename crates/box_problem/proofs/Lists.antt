-- Lists of which one value is replaced.
use Rattle.std.proofs.Common.{◌≡◌, ℕ, ◌<◌, ℤ, pos, List, length, get_or, set, sym, subst, inl, inr}
use Rattle.std.proofs.lemmas.List.{get_or-set_same, get_or-set_other}
use Rattle.std.proofs.lemmas.Bool.{cases_eq}

-- what holds of the new value at its place, and of each other value at its own, holds of the list with it
pub at_set : (P : ℕ → ℤ → Type 0) (xs : List ℤ) (i : ℕ) (x : ℤ) → i < length xs → P i x → ((k : ℕ) → ¬ k ≡ i → P k (get_or xs k (pos 0))) → (k : ℕ) → P k (get_or (set xs i x) k (pos 0))
at_set P xs i x exists here others k =
    elim (cases_eq k i) [
      | inl same ↦ subst (λ (n : ℕ). P n (get_or (set xs i x) n (pos 0))) (sym same) (subst (P i) (sym (get_or-set_same xs i x (pos 0) exists)) here)
      | inr other ↦ subst (P k) (sym (get_or-set_other xs i k x (pos 0) other)) (others k other)
    ]
