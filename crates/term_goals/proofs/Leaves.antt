-- The non-linear part of a term is that of the terms that it is made of.
use Rattle.std.proofs.Common.{◌≡◌, ◌⊎◌, inl, inr, ℕ, ◌*◌, ◌≤◌, ℤ, pos, negsuc, ◌*ℤ◌, ◌≤ℤ◌, unsigned_abs, Bool, true, false, ◌&&◌, ◌||◌, if◌then◌else◌, arith, refl, ap, subst, sym, ◌∙◌}
use Rattle.std.specs.Int.{int_min, int_max}
use Rattle.std.specs.Ordering.{int_eq}
use Rattle.std.proofs.lemmas.Int.{ints, clamps}
use Rattle.std.proofs.Math.Nat.{mul-le-mul_left}
use Rattle.std.proofs.Math.IntN.{*ℤ-zero}
use Rattle.std.proofs.lemmas.Bool.{or_parts}
use Rattle.sopl_base.proofs.Integers.{*ℤ-+ℤ, *ℤ_assoc, order_total}
use Rattle.box_problem.specs.Box.{Box}
use Rattle.term_language.specs.Ends as ends
use Rattle.term_language.specs.Forms.{Form, is_constant, atom_form, times_form, product_form, sign, whole}
use Rattle.term_language.specs.Rules.{Near, Wide, form, sum_form, atoms, interval}
use Rattle.term_language.specs.Sizes.{weight_of, alone_weight, product_weight, atoms_weight, sum_weight}
use Rattle.term_language.specs.Terms as term
use Rattle.term_language.proofs.FormValues.{by_bool}
use Rattle.term_language.proofs.Products.{up, down}
use Rattle.term_goals.proofs.Summing.{zero_plus}

-- a multiple of a sum of intervals, and a multiple of a multiple of an interval
cases_sign : (k : ℤ) → (pos 0 ≤ℤ k) ⊎ (k ≤ℤ pos 0)
cases_sign (pos n) = inl (omega (arith, ints))
cases_sign (negsuc n) = inr (omega (arith, ints))

pub same_ends : (a c : ends.Ends) → a.low ≡ c.low → a.high ≡ c.high → a ≡ c
same_ends a c low high = ap (λ (z : ℤ). ends.ends z a.high) low ∙ ap (λ (z : ℤ). ends.ends c.low z) high

pub scaled_plus : (k : ℤ) (a c : ends.Ends) → a.low ≤ℤ a.high → c.low ≤ℤ c.high → ends.scaled k (ends.plus a c) ≡ ends.plus (ends.scaled k a) (ends.scaled k c)
scaled_plus k a c a_ordered c_ordered =
    let low = *ℤ-+ℤ k a.low c.low in
    let high = *ℤ-+ℤ k a.high c.high in
    elim (cases_sign k) [
      | inl positive ↦
          let first = up k a.low a.high positive a_ordered in
          let second = up k c.low c.high positive c_ordered in
          same_ends (ends.scaled k (ends.plus a c)) (ends.plus (ends.scaled k a) (ends.scaled k c)) (omega (arith, ints, clamps, low, high, first, second))
          (omega (arith, ints, clamps, low, high, first, second))
      | inr negative ↦
          let first = down k a.low a.high negative a_ordered in
          let second = down k c.low c.high negative c_ordered in
          same_ends (ends.scaled k (ends.plus a c)) (ends.plus (ends.scaled k a) (ends.scaled k c)) (omega (arith, ints, clamps, low, high, first, second))
          (omega (arith, ints, clamps, low, high, first, second))
    ]

between_turned : (x y : ℤ) → ends.between x y ≡ ends.between y x
between_turned x y = same_ends (ends.between x y) (ends.between y x) (omega (arith, ints, clamps)) (omega (arith, ints, clamps))

between_times : (k x y : ℤ) → ends.scaled k (ends.between x y) ≡ ends.between (k *ℤ x) (k *ℤ y)
between_times k x y =
    elim (order_total x y) [
      | inl less ↦
          let low : int_min x y ≡ x = omega (arith, ints, clamps, less) in
          let high : int_max x y ≡ y = omega (arith, ints, clamps, less) in
          ap (λ (z : ℤ). ends.between (k *ℤ z) (k *ℤ int_max x y)) low ∙ ap (λ (z : ℤ). ends.between (k *ℤ x) (k *ℤ z)) high
      | inr more ↦
          let low : int_min x y ≡ y = omega (arith, ints, clamps, more) in
          let high : int_max x y ≡ x = omega (arith, ints, clamps, more) in
          ap (λ (z : ℤ). ends.between (k *ℤ z) (k *ℤ int_max x y)) low ∙ ap (λ (z : ℤ). ends.between (k *ℤ y) (k *ℤ z)) high ∙ between_turned (k *ℤ y) (k *ℤ x)
    ]

pub scaled_twice : (k m : ℤ) (a : ends.Ends) → ends.scaled k (ends.scaled m a) ≡ ends.scaled (k *ℤ m) a
scaled_twice k m a =
    between_times k (m *ℤ a.low) (m *ℤ a.high)
    ∙ ap (λ (z : ℤ). ends.between z (k *ℤ (m *ℤ a.high))) (sym (*ℤ_assoc k m a.low))
    ∙ ap (λ (z : ℤ). ends.between ((k *ℤ m) *ℤ a.low) z) (sym (*ℤ_assoc k m a.high))

pub scaled_zero : (k : ℤ) → ends.scaled k (ends.exactly (pos 0)) ≡ ends.exactly (pos 0)
scaled_zero k = ap (λ (z : ℤ). ends.between z z) (*ℤ-zero k)

pub plus_zero : (a : ends.Ends) → ends.plus a (ends.exactly (pos 0)) ≡ a
plus_zero a = same_ends (ends.plus a (ends.exactly (pos 0))) a (omega (arith, ints)) (omega (arith, ints))

pub plus_assoc : (a b c : ends.Ends) → ends.plus (ends.plus a b) c ≡ ends.plus a (ends.plus b c)
plus_assoc a b c = same_ends (ends.plus (ends.plus a b) c) (ends.plus a (ends.plus b c)) (omega (arith, ints)) (omega (arith, ints))

-- a term with no constant and no cell of its own is the non-linear part of it
pub leaf_interval : (root b : Box) (t : term.Term) → form root t ≡ atom_form → interval Near root b t ≡ atoms Near root b t
leaf_interval root b t is =
    ap (λ (f : Form). whole b f (atoms Near root b t)) is
    ∙ ap (ends.plus (ends.exactly (pos 0))) (zero_plus (atoms Near root b t)) ∙ zero_plus (atoms Near root b t)

-- what is not of cells alone weighs something
and_or : (a b c : Bool) → (a && (b || c)) ≡ false → (a ≡ false) ⊎ (b ≡ false)
and_or false b c none = inl refl
and_or true false c none = inr refl
and_or true true c none = cc

alone_weighs : (f : Form) (wide : ends.Ends) → f.plain ≡ false → 1 ≤ alone_weight f wide
alone_weighs f wide other =
    subst (λ (p : Bool). 1 ≤ (if p then 0 else weight_of wide)) (sym other) (omega arith)

sum_other : (s p : Bool) (subtracted : Bool) → (s && (p || int_eq (sign subtracted) (pos 0))) ≡ false → (s ≡ false) ⊎ (p ≡ false)
sum_other s p subtracted none = and_or s p (int_eq (sign subtracted) (pos 0)) none

-- a product with a number that is not of cells alone
pub times_other : (k : ℤ) (f : Form) → (times_form k f).plain ≡ false → (f.plain ≡ false) × (int_eq k (pos 0) ≡ false)
times_other k f none = or_parts f.plain (int_eq k (pos 0)) none

size_not_zero : (k : ℤ) → int_eq k (pos 0) ≡ false → 1 ≤ unsigned_abs k
size_not_zero k other = grind (arith, ints)

one_times : (a b : ℕ) → 1 ≤ a → 1 ≤ b → 1 ≤ a * b
one_times a b p q = omega (arith, mul-le-mul_left a q, p)

product_weighs : (root : Box) (f g : Form) (m n : ℕ) (wide : ends.Ends) → (product_form f g).plain ≡ false → (f.plain ≡ false → 1 ≤ m) → (g.plain ≡ false → 1 ≤ n) → 1 ≤ product_weight f g m n wide
product_weighs root f g m n wide =
    by_bool (λ c. (if c then times_form f.constant g else if is_constant g then times_form g.constant f else atom_form).plain ≡ false → (f.plain ≡ false → 1 ≤ m) → (g.plain ≡ false → 1 ≤ n)
    → 1 ≤ (if c then unsigned_abs f.constant * n else if is_constant g then unsigned_abs g.constant * m else weight_of wide)) (is_constant f)
    (λ constant other left right.
    let both_other = times_other f.constant g other in
    one_times (unsigned_abs f.constant) n (size_not_zero f.constant both_other.1) (right both_other.0))
    (λ first.
    by_bool (λ c. (if c then times_form g.constant f else atom_form).plain ≡ false → (f.plain ≡ false → 1 ≤ m) → (g.plain ≡ false → 1 ≤ n)
    → 1 ≤ (if c then unsigned_abs g.constant * m else weight_of wide)) (is_constant g)
    (λ constant other left right.
    let both_other = times_other g.constant f other in
    one_times (unsigned_abs g.constant) m (size_not_zero g.constant both_other.1) (left both_other.0))
    (λ second other left right. omega arith))

mutual
  pub weighs : (root : Box) (t : term.Term) → (form root t).plain ≡ false → 1 ≤ atoms_weight root t
  weighs root (term.Constant z) other = cc
  weighs root (term.Cell cell) other = cc
  weighs root (term.Sum parts) other = parts_weigh root parts other
  weighs root (term.Product a b) other =
      product_weighs root (form root a) (form root b) (atoms_weight root a) (atoms_weight root b) (atoms Wide root root (term.Product a b)) other (weighs root a) (weighs root b)
  weighs root (term.Made op a) other = alone_weighs (form root (term.Made op a)) (atoms Wide root root (term.Made op a)) other
  weighs root (term.Selected which a later) other = alone_weighs (form root (term.Selected which a later)) (atoms Wide root root (term.Selected which a later)) other
  weighs root (term.Element table at) other = alone_weighs (form root (term.Element table at)) (atoms Wide root root (term.Element table at)) other
  weighs root (term.Number c) other = alone_weighs (form root (term.Number c)) (atoms Wide root root (term.Number c)) other

  pub parts_weigh : (root : Box) (parts : term.Parts) → (sum_form root parts).plain ≡ false → 1 ≤ sum_weight root parts
  parts_weigh root term.no_part other = cc
  parts_weigh root (term.part subtracted t later) other =
      elim (sum_other (sum_form root later).plain (form root t).plain subtracted other) [
        | inl rest ↦ omega (arith, parts_weigh root later rest)
        | inr here ↦ omega (arith, weighs root t here)
      ]
