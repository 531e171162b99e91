-- Natural numbers.
use Rattle.std.proofs.Common.{ℕ, ◌<◌, ◌+◌, inl, inr, subst, arith, ◌≤◌, zero, suc, ◌≡◌, ◌*◌}
use Rattle.std.proofs.lemmas.Bool.{cases_lt}

pub one_more : (P : ℕ → Type 0) (at : ℕ) → ((k : ℕ) → k < at → P k) → P at → (k : ℕ) → k < at + 1 → P k
one_more P at before here k less =
    elim (cases_lt k at) [
      | inl earlier ↦ before k earlier
      | inr later ↦ subst P (omega (arith, less, later)) here
    ]

pub by_place : {P : Type 0} (n i : ℕ) → (i < n → P) → (n ≤ i → P) → P
by_place zero i before behind = behind (omega arith)
by_place (suc n) zero before behind = before (omega arith)
by_place (suc n) (suc i) before behind = by_place n i (λ less. before (omega arith)) (λ more. behind (omega arith))

pub from_zero : (i : ℕ) → 0 + i ≡ i
from_zero i = omega arith

pub spread : (a b c : ℕ) → (a + b) * c ≡ a * c + b * c
spread a b c = omega arith

pub spread_left : (a b c : ℕ) → a * (b + c) ≡ a * b + a * c
spread_left a b c = omega arith
