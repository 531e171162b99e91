-- Products of whole numbers, and of intervals.
use Rattle.std.proofs.Common.{◌≡◌, ℤ, pos, negsuc, ◌+ℤ◌, ◌-ℤ◌, ◌*ℤ◌, ◌≤ℤ◌, arith, sym, ap, ◌∙◌}
use Rattle.std.proofs.Math.IntN.{pred_ℤ-*ℤ, zero-*ℤ, *ℤ-one, *ℤ_comm, one, pos-*ℤ-pos}
use Rattle.std.proofs.lemmas.Int.{ints, clamps, by_lt_z}
use Rattle.std.specs.Int.{int_min, int_max}
use Rattle.sopl_base.proofs.Integers.{*ℤ-+ℤ, +ℤ-*ℤ}
use Rattle.term_language.specs.Ends.{Ends, Lies, exactly, plus, hull, scaled, times}

-- once, and minus once
pub one-*ℤ : (a : ℤ) → pos 1 *ℤ a ≡ a
unfolding one
one-*ℤ a = *ℤ_comm (pos 1) a ∙ *ℤ-one a

pub minus_one-*ℤ : (a : ℤ) → negsuc 0 *ℤ a ≡ pos 0 -ℤ a
minus_one-*ℤ a =
    let h = pred_ℤ-*ℤ (pos 0) a in
    let z = zero-*ℤ a in
    omega (arith, ints, h, z)

-- products of numbers that are not negative, and of numbers in order
nonneg : (k g : ℤ) → pos 0 ≤ℤ k → pos 0 ≤ℤ g → pos 0 ≤ℤ (k *ℤ g)
nonneg (pos m) (pos n) p q = omega (arith, ints, pos-*ℤ-pos m n)
nonneg (pos m) (negsuc n) p q = absurd (omega (arith, ints))
nonneg (negsuc m) g p q = absurd (omega (arith, ints))

pub up : (k a b : ℤ) → pos 0 ≤ℤ k → a ≤ℤ b → (k *ℤ a) ≤ℤ (k *ℤ b)
up k a b p q =
    let gap : ℤ = b -ℤ a in
    let same : b ≡ a +ℤ gap = omega (arith, ints) in
    let h = nonneg k gap p (omega (arith, ints)) in
    let d = ap (λ z. k *ℤ z) same ∙ *ℤ-+ℤ k a gap in
    omega (arith, ints)

-- a negative factor turns the order round
pub turned : (k a : ℤ) → (pos 0 -ℤ k) *ℤ a ≡ pos 0 -ℤ k *ℤ a
turned k a =
    let h = +ℤ-*ℤ (pos 0 -ℤ k) k a in
    let e : (pos 0 -ℤ k) +ℤ k ≡ pos 0 = omega (arith, ints) in
    let z = ap (λ n. n *ℤ a) e ∙ zero-*ℤ a in
    omega (arith, ints, h, z)

pub down : (k a b : ℤ) → k ≤ℤ pos 0 → a ≤ℤ b → (k *ℤ b) ≤ℤ (k *ℤ a)
down k a b p q =
    omega (arith, ints, up (pos 0 -ℤ k) a b (omega (arith, ints)) q, turned k a, turned k b)

pub in_exactly : (x z : ℤ) → x ≡ z → Lies x (exactly z)
in_exactly x z is = record { from_low = omega (arith, ints); to_high = omega (arith, ints) }

pub in_plus : (x y : ℤ) (a b : Ends) → Lies x a → Lies y b → Lies (x +ℤ y) (plus a b)
in_plus x y a b p q = record {
  from_low = omega (arith, ints, p.from_low, q.from_low);
  to_high = omega (arith, ints, p.to_high, q.to_high);
}

-- a multiple
pub in_scaled : (k x : ℤ) (a : Ends) → Lies x a → Lies (k *ℤ x) (scaled k a)
in_scaled k x a p =
    by_lt_z k (pos 0)
    (λ negative. record {
      from_low = omega (arith, ints, clamps, down k x a.high (omega (arith, ints)) p.to_high);
      to_high = omega (arith, ints, clamps, down k a.low x (omega (arith, ints)) p.from_low);
    })
    (λ positive. record {
      from_low = omega (arith, ints, clamps, up k a.low x positive p.from_low);
      to_high = omega (arith, ints, clamps, up k x a.high positive p.to_high);
    })

-- a product lies between those with both ends
in_times_by : (xy low_y high_y : ℤ) (a b : Ends) → Lies low_y a → Lies high_y b → int_min low_y high_y ≤ℤ xy → xy ≤ℤ int_max low_y high_y → Lies xy (hull a b)
in_times_by xy low_y high_y a b p q above below = record {
  from_low = omega (arith, ints, clamps, p.from_low, q.from_low);
  to_high = omega (arith, ints, clamps, p.to_high, q.to_high);
}

pub in_times : (x y : ℤ) (a b : Ends) → Lies x a → Lies y b → Lies (x *ℤ y) (times a b)
in_times x y a b p q =
    let between_both = in_scaled y x a p in
    let low = *ℤ_comm y a.low in
    let high = *ℤ_comm y a.high in
    let here = *ℤ_comm y x in
    in_times_by (x *ℤ y) (a.low *ℤ y) (a.high *ℤ y) (scaled a.low b) (scaled a.high b)
    (in_scaled a.low y b q) (in_scaled a.high y b q)
    (omega (arith, ints, clamps, between_both.from_low, low, high, here))
    (omega (arith, ints, clamps, between_both.to_high, low, high, here))

-- a multiple of a difference
pub times_less : (k x y : ℤ) → k *ℤ (x -ℤ y) ≡ k *ℤ x -ℤ k *ℤ y
times_less k x y =
    let back : (x -ℤ y) +ℤ y ≡ x = omega (arith, ints) in
    let h = sym (*ℤ-+ℤ k (x -ℤ y) y) ∙ ap (λ z. k *ℤ z) back in
    omega (arith, ints, h)
