-- Whether numbers are too many.
use Rattle.std.proofs.Common.{◌≡◌, refl, sym, ap, subst, ◌∙◌, ℕ, ℤ, pos, zero, suc, of_z, ◌+ℤ◌, length, Bool, true, false, not, T}
use Rattle.std.specs.Int.{w128}
use Rattle.sopl_ast.specs.Numbers.{counted_up, count_between, up_to}

-- a number was seen, or not
pub was_seen : (added seen : Bool) → added ≡ not seen → added ≡ false → seen ≡ true
was_seen added true p q = refl
was_seen added false p q = absurd (subst T (sym p ∙ q) tt)

pub was_new : (added seen : Bool) → added ≡ not seen → added ≡ true → seen ≡ false
was_new added true p q = absurd (subst T (sym q ∙ p) tt)
was_new added false p q = refl

length_counted : (z : ℤ) (n : ℕ) → length (counted_up z n) ≡ n
length_counted z zero = refl
length_counted z (suc n) = ap suc (length_counted (z +ℤ pos 1) n)

-- how many numbers there are from one end to another
pub so_many : (lo hi z : ℤ) → z ≡ pos (count_between lo hi) → of_z w128 z ≡ length (up_to lo hi)
so_many lo hi z is = ap (of_z w128) is ∙ sym (length_counted lo (count_between lo hi))
