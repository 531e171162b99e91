-- What the code's quotients and remainders are: they fit, since a quotient is no greater in size than what is divided.
use Rattle.std.proofs.Common.{rules, ◌≡◌, sym, ap, ◌∙◌, ◌≤◌, ◌^◌, ℤ, pos, FitsSigned, arith, int_eq, false, cond, Option, Some, None, option_and_then}
use Rattle.std.proofs.lemmas.Int.{fits_signed_from_abs, quot_is, rem_is}
use Rattle.std.specs.Int.{w64, w128, cast_signed, cast_unsigned}
use Rattle.std.specs.Int.RustNames.{int_div, int_rem, unsigned_abs}
use Rattle.std.specs.Int.Signed.{nat_abs-le}
use Rattle.sopl_base.proofs.Sizes.{quotient_size}
use Rattle.sopl_ast.specs.declared.operators.MulOp.TheVariants.{Div, Mod}
use Rattle.sopl_ast.specs.Constants.{within}
use Rattle.sopl_ast.specs.Numbers.{applied}

quotient_fits : (x y : ℤ) → FitsSigned w64 x → FitsSigned w128 (int_div x y)
quotient_fits x y fits =
    let size : unsigned_abs x ≤ 2 ^ 63 = nat_abs-le x fits.sfits in
    let least : unsigned_abs (int_div x y) ≤ unsigned_abs x = quotient_size x y in
    fits_signed_from_abs w128 (int_div x y) (omega (arith, size, least))

wider : (x : ℤ) → FitsSigned w64 x → FitsSigned w128 x
wider x fits = search (rules, fits)

chosen : (y : ℤ) (found : Option ℤ) → int_eq y (pos 0) ≡ false → cond (int_eq y (pos 0)) None found ≡ found
chosen y found nonzero = ap (λ b. cond b None found) nonzero

module _ (x y a b : ℤ) (r : Option ℤ) (is_x : a ≡ x) (is_y : b ≡ y) (fits_x : FitsSigned w64 x) (fits_y : FitsSigned w64 y) (nonzero : int_eq y (pos 0) ≡ false) where
  pub quotient_is : r ≡ within (cast_signed w128 (cast_unsigned w128 (int_div (cast_signed w128 (cast_unsigned w128 a)) (cast_signed w128 (cast_unsigned w128 b)))))
      → r ≡ option_and_then within (applied Div x y)
  quotient_is e =
      e ∙ (λ i. within (cast_signed w128 (cast_unsigned w128 (int_div (cast_signed w128 (cast_unsigned w128 (is_x i))) (cast_signed w128 (cast_unsigned w128 (is_y i)))))))
      ∙ ap within (quot_is w128 x y (wider x fits_x) (wider y fits_y) (quotient_fits x y fits_x))
      ∙ ap (option_and_then within) (sym (chosen y (Some (int_div x y)) nonzero))

  pub remainder_is : r ≡ within (cast_signed w128 (cast_unsigned w128 (int_rem (cast_signed w128 (cast_unsigned w128 a)) (cast_signed w128 (cast_unsigned w128 b)))))
      → r ≡ option_and_then within (applied Mod x y)
  remainder_is e =
      e ∙ (λ i. within (cast_signed w128 (cast_unsigned w128 (int_rem (cast_signed w128 (cast_unsigned w128 (is_x i))) (cast_signed w128 (cast_unsigned w128 (is_y i)))))))
      ∙ ap within (rem_is w128 x y (wider x fits_x) (wider y fits_y))
      ∙ ap (option_and_then within) (sym (chosen y (Some (int_rem x y)) nonzero))
