-- Booleans.
use Rattle.std.proofs.Common.{Bool, not, ◌≡◌, true, false, true≢false, sym, refl, ◌&&◌, ap}

pub not_true : (b : Bool) → not b ≡ true → b ≡ false
not_true true is = absurd (true≢false (sym is))
not_true false is = refl

pub impossible : true ≡ false → ⊥
impossible same = cc

pub and_true : (b c : Bool) → b ≡ true → (b && c) ≡ c
and_true b c is = ap (λ (x : Bool). x && c) is

pub tests_agree : (a b : Bool) → (a ≡ true → b ≡ true) → (b ≡ true → a ≡ true) → a ≡ b
tests_agree true b f g = sym (f refl)
tests_agree false true f g = absurd (true≢false (sym (g refl)))
tests_agree false false f g = refl
