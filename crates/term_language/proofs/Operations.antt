-- Quotients, remainders, images and extremes of the numbers of intervals.
use Rattle.std.proofs.Common.{◌≡◌, ◌⊎◌, inl, inr, ℕ, zero, suc, ◌/◌, ◌<◌, ◌≤◌, ℤ, pos, negsuc, unsigned_abs, ◌-ℤ◌, ◌*ℤ◌, ◌≤ℤ◌, ◌<ℤ◌, int_lt, true, false, if◌then◌else◌, arith, refl, sym, ap, ◌∙◌}
use Rattle.std.specs.Int.{int_min, int_max}
use Rattle.std.specs.Int.RustNames.{int_div, int_rem}
use Rattle.std.specs.Ordering.{int_eq}
use Rattle.std.proofs.Math.Nat.{div-mul-le_self, mod-le}
use Rattle.std.proofs.lemmas.Nat.{le-div}
use Rattle.std.proofs.lemmas.Int.{ints, clamps, by_lt_z, quot-rem, rem_below}
use Rattle.sopl_base.proofs.Tests.{equal_tested}
use Rattle.sopl_base.specs.declared.extreme.Extreme.{Extreme}
use Rattle.sopl_base.specs.declared.extreme.Extreme.TheVariants.{Least, Greatest}
use Rattle.sopl_base.specs.Extremes.{chosen_by}
use Rattle.term_language.specs.declared.made.Operation.{Operation}
use Rattle.term_language.specs.declared.made.Operation.TheVariants.{Quotient, Remainder, Size}
use Rattle.term_language.specs.Ends.{Ends, Lies, has, ends, exactly, between, hull, quotients, remainders, size_of, image, made_of, made, picked}
use Rattle.term_language.proofs.FormValues.{by_if}

-- quotients of numbers in order are in order
div_up : (a b c : ℕ) → a ≤ b → a / c ≤ b / c
div_up a b zero order = omega arith
div_up a b (suc c) order = le-div (a / suc c) b (suc c) (omega arith) (omega (arith, div-mul-le_self a (suc c)))

pub div_order : (x y : ℤ) (n : ℕ) → x ≤ℤ y → int_div x (pos n) ≤ℤ int_div y (pos n)
div_order (pos a) (pos b) n order = omega (arith, ints, div_up a b n (omega (arith, ints)))
div_order (pos a) (negsuc b) n order = absurd (omega (arith, ints))
div_order (negsuc a) (pos b) n order = omega (arith, ints)
div_order (negsuc a) (negsuc b) n order = omega (arith, ints, div_up (suc b) (suc a) n (omega (arith, ints)))

pub div_turned : (x y : ℤ) (n : ℕ) → x ≤ℤ y → int_div y (negsuc n) ≤ℤ int_div x (negsuc n)
div_turned (pos a) (pos b) n order = omega (arith, ints, div_up a b (suc n) (omega (arith, ints)))
div_turned (pos a) (negsuc b) n order = absurd (omega (arith, ints))
div_turned (negsuc a) (pos b) n order = omega (arith, ints)
div_turned (negsuc a) (negsuc b) n order = omega (arith, ints, div_up (suc b) (suc a) (suc n) (omega (arith, ints)))

pub in_quotients : (c x : ℤ) (a : Ends) → Lies x a → Lies (int_div x c) (quotients a c)
in_quotients (pos n) x a p = record {
  from_low = omega (arith, ints, clamps, div_order a.low x n p.from_low);
  to_high = omega (arith, ints, clamps, div_order x a.high n p.to_high);
}
in_quotients (negsuc n) x a p = record {
  from_low = omega (arith, ints, clamps, div_turned x a.high n p.to_high);
  to_high = omega (arith, ints, clamps, div_turned a.low x n p.from_low);
}

-- between equal quotients the quotient is the same
pub squeezed : (c x : ℤ) (a : Ends) → Lies x a → int_div a.low c ≡ int_div a.high c → int_div x c ≡ int_div a.low c
squeezed c x a p same =
    let q = in_quotients c x a p in
    omega (arith, ints, clamps, q.from_low, q.to_high, same)

pub one_quotient : (c x : ℤ) (a : Ends) → Lies x a → int_div a.low c ≡ int_div a.high c → Lies (int_rem x c) (ends (int_rem a.low c) (int_rem a.high c))
one_quotient c x a p same =
    let here = ap (λ q. q *ℤ c) (squeezed c x a p same) in
    let there = ap (λ q. q *ℤ c) same in
    record {
      from_low = omega (arith, ints, p.from_low, quot-rem x c, quot-rem a.low c, here);
      to_high = omega (arith, ints, p.to_high, quot-rem x c, quot-rem a.high c, here, there);
    }

-- a remainder has the sign of what is divided, is no greater in size, and less than the divisor
pub rem_from : (x c : ℤ) → pos 0 ≤ℤ x → (pos 0 ≤ℤ int_rem x c) × (int_rem x c ≤ℤ x)
rem_from (pos a) c order = (omega (arith, ints), omega (arith, ints, mod-le a (unsigned_abs c)))
rem_from (negsuc a) c order = absurd (omega (arith, ints))

pub rem_to : (x c : ℤ) → x ≤ℤ pos 0 → (x ≤ℤ int_rem x c) × (int_rem x c ≤ℤ pos 0)
rem_to (pos a) c order =
    let none : a ≡ 0 = omega (arith, ints) in
    let rest = mod-le a (unsigned_abs c) in
    (omega (arith, ints), omega (arith, ints))
rem_to (negsuc a) c order =
    let rest = mod-le (suc a) (unsigned_abs c) in
    (omega (arith, ints), omega (arith, ints))

-- the size of a remainder is below that of the divisor
pub abs_within : (z : ℤ) (n : ℕ) → unsigned_abs z < n → ((pos 1 -ℤ pos n) ≤ℤ z) × (z ≤ℤ (pos n -ℤ pos 1))
abs_within (pos a) n below = (omega (arith, ints), omega (arith, ints))
abs_within (negsuc a) n below = (omega (arith, ints), omega (arith, ints))

div_by_zero : (x : ℤ) → int_div x (pos 0) ≡ pos 0
div_by_zero (pos a) = omega (arith, ints)
div_by_zero (negsuc a) = omega (arith, ints)

pub equal_tests : (x y : ℤ) → x ≡ y → int_eq x y ≡ true
equal_tests x y same = grind (arith, ints)

-- where two quotients differ, the divisor is not 0
pub divides : (l h c : ℤ) → int_eq (int_div l c) (int_div h c) ≡ false → 0 < unsigned_abs c
divides l h (pos zero) differ =
    let same = equal_tests (int_div l (pos 0)) (int_div h (pos 0)) (div_by_zero l ∙ sym (div_by_zero h)) in absurd (cc)
divides l h (pos (suc n)) differ = omega arith
divides l h (negsuc n) differ = omega arith

pub remainder_low : (c x : ℤ) (a : Ends) → Lies x a → 0 < unsigned_abs c → (if int_lt a.low (pos 0) then int_max a.low (pos 1 -ℤ pos (unsigned_abs c)) else pos 0) ≤ℤ int_rem x c
remainder_low c x a p divisor =
    let within = abs_within (int_rem x c) (unsigned_abs c) (rem_below x c divisor) in
    by_if (λ z. z ≤ℤ int_rem x c) (int_lt a.low (pos 0)) (int_max a.low (pos 1 -ℤ pos (unsigned_abs c))) (pos 0)
    (λ below.
    by_lt_z x (pos 0)
    (λ negative. omega (arith, ints, clamps, p.from_low, within.0, (rem_to x c (omega (arith, ints))).0))
    (λ positive. let low : a.low <ℤ pos 0 = tested a.low below in omega (arith, ints, clamps, low, within.0, (rem_from x c positive).0)))
    (λ above. let low : pos 0 ≤ℤ a.low = untested a.low above in (rem_from x c (omega (arith, ints, p.from_low))).0)
  where
    tested : (z : ℤ) → int_lt z (pos 0) ≡ true → z <ℤ pos 0
    tested z below = grind (arith, ints)

    untested : (z : ℤ) → int_lt z (pos 0) ≡ false → pos 0 ≤ℤ z
    untested z above = grind (arith, ints)

pub remainder_high : (c x : ℤ) (a : Ends) → Lies x a → 0 < unsigned_abs c → int_rem x c ≤ℤ (if int_lt (pos 0) a.high then int_min a.high (pos (unsigned_abs c) -ℤ pos 1) else pos 0)
remainder_high c x a p divisor =
    let within = abs_within (int_rem x c) (unsigned_abs c) (rem_below x c divisor) in
    by_if (λ z. int_rem x c ≤ℤ z) (int_lt (pos 0) a.high) (int_min a.high (pos (unsigned_abs c) -ℤ pos 1)) (pos 0)
    (λ above.
    by_lt_z x (pos 0)
    (λ negative. let high : pos 0 <ℤ a.high = tested a.high above in omega (arith, ints, clamps, high, within.1, (rem_to x c (omega (arith, ints))).1))
    (λ positive. omega (arith, ints, clamps, p.to_high, within.1, (rem_from x c positive).1)))
    (λ below. let high : a.high ≤ℤ pos 0 = untested a.high below in (rem_to x c (omega (arith, ints, p.to_high))).1)
  where
    tested : (z : ℤ) → int_lt (pos 0) z ≡ true → pos 0 <ℤ z
    tested z above = grind (arith, ints)

    untested : (z : ℤ) → int_lt (pos 0) z ≡ false → z ≤ℤ pos 0
    untested z below = grind (arith, ints)

pub in_remainders : (c x : ℤ) (a : Ends) → Lies x a → Lies (int_rem x c) (remainders a c)
in_remainders c x a p =
    by_if (Lies (int_rem x c)) (int_eq (int_div a.low c) (int_div a.high c)) (ends (int_rem a.low c) (int_rem a.high c))
    (ends (if int_lt a.low (pos 0) then int_max a.low (pos 1 -ℤ pos (unsigned_abs c)) else pos 0) (if int_lt (pos 0) a.high then int_min a.high (pos (unsigned_abs c) -ℤ pos 1) else pos 0))
    (λ same. one_quotient c x a p (equal_tested (int_div a.low c) (int_div a.high c) same))
    (λ differ.
    let divisor = divides a.low a.high c differ in
    record { from_low = remainder_low c x a p divisor; to_high = remainder_high c x a p divisor })

-- sizes
pub size_positive : (z : ℤ) → pos 0 ≤ℤ z → size_of z ≡ z
size_positive (pos n) order = refl
size_positive (negsuc n) order = absurd (omega (arith, ints))

pub size_negative : (z : ℤ) → z ≤ℤ pos 0 → size_of z ≡ pos 0 -ℤ z
size_negative (pos n) order = omega (arith, ints)
size_negative (negsuc n) order = omega (arith, ints)

has_zero : (a : Ends) → a.low ≤ℤ pos 0 → pos 0 ≤ℤ a.high → has a (pos 0) ≡ true
has_zero a low high = grind (arith, ints)

-- an interval without 0 lies on one side of it
one_side : (a : Ends) → has a (pos 0) ≡ false → (a.high ≤ℤ pos 0) ⊎ (pos 0 ≤ℤ a.low)
one_side a outside =
    by_lt_z (pos 0) a.low
    (λ above. inr (omega (arith, ints)))
    (λ not_above.
    by_lt_z a.high (pos 0)
    (λ below. inl (omega (arith, ints)))
    (λ not_below. let zero_in = has_zero a not_above not_below in absurd (cc)))

-- functions that rise or fall on each side of 0: what they make of a number lies between what they make of any two around it on its side
abbrev pub Turns : (ℤ → ℤ) → Type 0
Turns f = (x y z : ℤ) → x ≤ℤ y → y ≤ℤ z → (z ≤ℤ pos 0) ⊎ (pos 0 ≤ℤ x) → Lies (f y) (between (f x) (f z))

pub in_image : (f : ℤ → ℤ) → Turns f → (x : ℤ) (a : Ends) → Lies x a → Lies (f x) (image f a)
in_image f turns x a p =
    by_if (Lies (f x)) (has a (pos 0)) (hull (exactly (f (pos 0))) (between (f a.low) (f a.high))) (between (f a.low) (f a.high))
    (λ inside.
    by_lt_z x (pos 0)
    (λ below.
    let left : x ≤ℤ pos 0 = omega (arith, ints, below) in
    let here = turns a.low x (pos 0) p.from_low left (inl (omega (arith, ints))) in
    record { from_low = omega (arith, ints, clamps, here.from_low); to_high = omega (arith, ints, clamps, here.to_high) })
    (λ above.
    let here = turns (pos 0) x a.high above p.to_high (inr (omega (arith, ints))) in
    record { from_low = omega (arith, ints, clamps, here.from_low); to_high = omega (arith, ints, clamps, here.to_high) }))
    (λ outside. turns a.low x a.high p.from_low p.to_high (one_side a outside))

pub size_turns : Turns size_of
size_turns x y z low high (inl below) =
    let at_x = size_negative x (omega (arith, ints, low, high, below)) in
    let at_y = size_negative y (omega (arith, ints, high, below)) in
    let at_z = size_negative z below in
    record { from_low = omega (arith, ints, clamps, low, high, at_x, at_y, at_z); to_high = omega (arith, ints, clamps, low, high, at_x, at_y, at_z) }
size_turns x y z low high (inr above) =
    let at_x = size_positive x above in
    let at_y = size_positive y (omega (arith, ints, low, above)) in
    let at_z = size_positive z (omega (arith, ints, low, high, above)) in
    record { from_low = omega (arith, ints, clamps, low, high, at_x, at_y, at_z); to_high = omega (arith, ints, clamps, low, high, at_x, at_y, at_z) }

-- what is made of one number
pub in_made : (op : Operation) (x : ℤ) (a : Ends) → Lies x a → Lies (made_of op x) (made op a)
in_made (Quotient divisor) x a p = in_quotients divisor.number x a p
in_made (Remainder divisor) x a p = in_remainders divisor.number x a p
in_made Size x a p = in_image size_of size_turns x a p

-- the least or the greatest
pub in_picked : (which : Extreme) (x y : ℤ) (a b : Ends) → Lies x a → Lies y b → Lies (chosen_by which x y) (picked which a b)
in_picked Least x y a b p q = record {
  from_low = omega (arith, ints, clamps, p.from_low, q.from_low);
  to_high = omega (arith, ints, clamps, p.to_high, q.to_high);
}
in_picked Greatest x y a b p q = record {
  from_low = omega (arith, ints, clamps, p.from_low, q.from_low);
  to_high = omega (arith, ints, clamps, p.to_high, q.to_high);
}
