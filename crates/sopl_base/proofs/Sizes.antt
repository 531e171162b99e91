-- Sizes of whole numbers, and gaps between them.
use Rattle.std.proofs.Common.{ℤ, ℕ, neg_ℤ, pos, ◌≤ℤ◌, unsigned_abs, ◌≤◌, arith, negsuc, ◌+ℤ◌, ◌+◌, SFits, w64, to_z, of_z, ◌≡◌, zero, refl, suc, subst, sym, ◌/◌}
use Rattle.std.proofs.Math.Nat.{div-le_self}
use Rattle.std.proofs.lemmas.Int.{ints, to_z-of_z}
use Rattle.std.specs.Int.RustNames.{int_div}

pub sized : (z : ℤ) (n : ℕ) → neg_ℤ (pos n) ≤ℤ z → z ≤ℤ pos n → unsigned_abs z ≤ n
sized (pos k) n low high = omega (arith, ints, low, high)
sized (negsuc k) n low high = omega (arith, ints, low, high)

pub plus_size : (a b : ℤ) → unsigned_abs (a +ℤ b) ≤ unsigned_abs a + unsigned_abs b
plus_size a b = omega (arith, ints)

pub same_small : (x : ℤ) → SFits w64 x → to_z w64 (of_z w64 x) ≡ x
same_small x fits = to_z-of_z w64 x fits

pub size_neg : (n : ℕ) → unsigned_abs (neg_ℤ (pos n)) ≡ n
size_neg zero = refl
size_neg (suc n) = refl

pub quotient_size : (x y : ℤ) → unsigned_abs (int_div x y) ≤ unsigned_abs x
quotient_size (pos a) (pos b) = div-le_self a b
quotient_size (pos a) (negsuc b) = subst (λ n. n ≤ a) (sym (size_neg (a / suc b))) (div-le_self a (suc b))
quotient_size (negsuc a) (pos b) = subst (λ n. n ≤ suc a) (sym (size_neg (suc a / b))) (div-le_self (suc a) b)
quotient_size (negsuc a) (negsuc b) = div-le_self (suc a) (suc b)
