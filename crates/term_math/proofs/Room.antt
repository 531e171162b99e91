-- What is made of small numbers has room.
use Rattle.std.proofs.Common.{◌≡◌, zero, suc, ◌<◌, ◌≤◌, ◌^◌, ℤ, pos, negsuc, neg_ℤ, unsigned_abs, FitsSigned, of_z, false, arith, w64}
use Rattle.std.proofs.lemmas.Int.{fits_signed_from_abs, quot_is, rem_is}
use Rattle.std.specs.Int.{cast_signed, cast_unsigned}
use Rattle.std.specs.Int.RustNames.{int_div, int_rem}
use Rattle.std.specs.Ordering.{int_eq}
use Rattle.sopl_base.proofs.Sizes.{quotient_size}

pub small_fits : (x : ℤ) → unsigned_abs x ≤ 2 ^ 40 → FitsSigned w64 x
small_fits x small = fits_signed_from_abs w64 x (omega (arith, small))

pub quotient_fits : (x y : ℤ) → unsigned_abs x ≤ 2 ^ 40 → FitsSigned w64 (int_div x y)
quotient_fits x y small = fits_signed_from_abs w64 (int_div x y) (omega (arith, quotient_size x y, small))

pub turned_fits : (x : ℤ) → unsigned_abs x ≤ 2 ^ 40 → FitsSigned w64 (neg_ℤ x)
turned_fits (pos zero) small = fits_signed_from_abs w64 (pos 0) (omega arith)
turned_fits (pos (suc n)) small = fits_signed_from_abs w64 (negsuc n) (omega (arith, small))
turned_fits (negsuc n) small = fits_signed_from_abs w64 (pos (suc n)) (omega (arith, small))

pub divides : (y : ℤ) → int_eq y (pos 0) ≡ false → unsigned_abs y ≤ 2 ^ 40 → 0 < of_z w64 y
divides (pos zero) nonzero small = absurd (cc)
divides (pos (suc n)) nonzero small = omega arith
divides (negsuc n) nonzero small = omega (arith, small)

-- what the code's `/` and `%` give
pub quotient_is : (x y : ℤ) → unsigned_abs x ≤ 2 ^ 40 → unsigned_abs y ≤ 2 ^ 40
    → cast_signed w64 (cast_unsigned w64 (int_div (cast_signed w64 (cast_unsigned w64 x)) (cast_signed w64 (cast_unsigned w64 y)))) ≡ int_div x y
quotient_is x y x_small y_small = quot_is w64 x y (small_fits x x_small) (small_fits y y_small) (quotient_fits x y x_small)

pub remainder_is : (x y : ℤ) → unsigned_abs x ≤ 2 ^ 40 → unsigned_abs y ≤ 2 ^ 40
    → cast_signed w64 (cast_unsigned w64 (int_rem (cast_signed w64 (cast_unsigned w64 x)) (cast_signed w64 (cast_unsigned w64 y)))) ≡ int_rem x y
remainder_is x y x_small y_small = rem_is w64 x y (small_fits x x_small) (small_fits y y_small)
