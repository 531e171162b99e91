-- The weight of the interval of a product.
use Rattle.std.proofs.Common.{◌≡◌, ◌⊎◌, inl, inr, ℕ, ◌*◌, ◌≤◌, max, ℤ, ◌*ℤ◌, unsigned_abs, arith, ap}
use Rattle.std.proofs.lemmas.Int.{ints, clamps, unsigned_abs-mul}
use Rattle.std.proofs.lemmas.Bool.{cases_lt}
use Rattle.std.proofs.Math.Nat.{mul-le-mul_left, mul-le-mul_right}
use Rattle.sopl_base.proofs.Sizes.{sized}
use Rattle.term_language.specs.Ends as rule
use Rattle.term_language.specs.Sizes.{weight_of}
use Rattle.term_language.proofs.Bounds.{Bounds, small}

-- a bound on both ends of a hull is one on all four numbers, and the other way round
hull_bounds : (x y z w : ℤ) (n : ℕ) → unsigned_abs x ≤ n → unsigned_abs y ≤ n → unsigned_abs z ≤ n → unsigned_abs w ≤ n → Bounds (rule.hull (rule.between x y) (rule.between z w)) n
hull_bounds x y z w n p q r s =
    let x_small = small x n p in
    let y_small = small y n q in
    let z_small = small z n r in
    let w_small = small w n s in
    record {
      low = sized (rule.hull (rule.between x y) (rule.between z w)).low n (omega (arith, ints, clamps, x_small.0, y_small.0, z_small.0, w_small.0))
          (omega (arith, ints, clamps, x_small.1, y_small.1, z_small.1, w_small.1));
      high = sized (rule.hull (rule.between x y) (rule.between z w)).high n (omega (arith, ints, clamps, x_small.0, y_small.0, z_small.0, w_small.0))
          (omega (arith, ints, clamps, x_small.1, y_small.1, z_small.1, w_small.1));
    }

four_bounds : (x y z w : ℤ) (n : ℕ) → Bounds (rule.hull (rule.between x y) (rule.between z w)) n → (unsigned_abs x ≤ n) × (unsigned_abs y ≤ n) × (unsigned_abs z ≤ n) × (unsigned_abs w ≤ n)
four_bounds x y z w n bounds =
    let low = small (rule.hull (rule.between x y) (rule.between z w)).low n bounds.low in
    let high = small (rule.hull (rule.between x y) (rule.between z w)).high n bounds.high in (
      sized x n (omega (arith, ints, clamps, low.0)) (omega (arith, ints, clamps, high.1)),
      sized y n (omega (arith, ints, clamps, low.0)) (omega (arith, ints, clamps, high.1)),
      sized z n (omega (arith, ints, clamps, low.0)) (omega (arith, ints, clamps, high.1)),
      sized w n (omega (arith, ints, clamps, low.0)) (omega (arith, ints, clamps, high.1)),
    )

abbrev size_of_both : rule.Ends → ℕ
size_of_both a = max (unsigned_abs a.low) (unsigned_abs a.high)

hull_size : (x y z w : ℤ) → size_of_both (rule.hull (rule.between x y) (rule.between z w)) ≡ max (max (unsigned_abs x) (unsigned_abs y)) (max (unsigned_abs z) (unsigned_abs w))
hull_size x y z w =
    let all : ℕ = max (max (unsigned_abs x) (unsigned_abs y)) (max (unsigned_abs z) (unsigned_abs w)) in
    let hull : rule.Ends = rule.hull (rule.between x y) (rule.between z w) in
    let up = hull_bounds x y z w all (omega arith) (omega arith) (omega arith) (omega arith) in
    let down = four_bounds x y z w (size_of_both hull) (record { low = omega arith; high = omega arith }) in
    omega (arith, up.low, up.high, down.0, down.1, down.2, down.3)

cases_le : (a b : ℕ) → (a ≤ b) ⊎ (b ≤ a)
cases_le a b =
    elim (cases_lt a b) [
      | inl less ↦ inl (omega (arith, less))
      | inr more ↦ inr more
    ]

-- the greatest of products is the product of the greatest
max_times : (k a b : ℕ) → k * max a b ≡ max (k * a) (k * b)
max_times k a b =
    elim (cases_le a b) [
      | inl less ↦ let most = mul-le-mul_left k less in let here : max a b ≡ b = omega (arith, less) in omega (arith, most, ap (λ (n : ℕ). k * n) here)
      | inr more ↦ let most = mul-le-mul_left k more in let here : max a b ≡ a = omega (arith, more) in omega (arith, most, ap (λ (n : ℕ). k * n) here)
    ]

times_max : (a b k : ℕ) → max a b * k ≡ max (a * k) (b * k)
times_max a b k =
    elim (cases_le a b) [
      | inl less ↦ let most = mul-le-mul_right k less in let here : max a b ≡ b = omega (arith, less) in omega (arith, most, ap (λ (n : ℕ). n * k) here)
      | inr more ↦ let most = mul-le-mul_right k more in let here : max a b ≡ a = omega (arith, more) in omega (arith, most, ap (λ (n : ℕ). n * k) here)
    ]

pub weight_times : (a c : rule.Ends) → weight_of (rule.times a c) ≡ max (max (unsigned_abs a.low) (unsigned_abs a.high) * max (unsigned_abs c.low) (unsigned_abs c.high)) 1
weight_times a c =
    let sizes = hull_size (a.low *ℤ c.low) (a.low *ℤ c.high) (a.high *ℤ c.low) (a.high *ℤ c.high) in
    let split = times_max (unsigned_abs a.low) (unsigned_abs a.high) (max (unsigned_abs c.low) (unsigned_abs c.high)) in
    let low = max_times (unsigned_abs a.low) (unsigned_abs c.low) (unsigned_abs c.high) in
    let high = max_times (unsigned_abs a.high) (unsigned_abs c.low) (unsigned_abs c.high) in
    omega (arith, sizes, split, low, high, unsigned_abs-mul a.low c.low, unsigned_abs-mul a.low c.high, unsigned_abs-mul a.high c.low, unsigned_abs-mul a.high c.high)
