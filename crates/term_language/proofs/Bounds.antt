-- Sizes bound the numbers of wide intervals over the root.
use Rattle.std.proofs.Common.{◌≡◌, ℕ, ◌+◌, ◌*◌, ◌≤◌, ℤ, pos, negsuc, neg_ℤ, unsigned_abs, ◌+ℤ◌, ◌*ℤ◌, ◌≤ℤ◌, Bool, true, false, if◌then◌else◌, List, [], ◌∷◌, arith, refl, ap, subst, ◌∙◌}
use Rattle.std.proofs.lemmas.Int.{ints, clamps, unsigned_abs-mul}
use Rattle.std.proofs.Math.Nat.{mul-le-mul_left}
use Rattle.sopl_base.proofs.Sizes.{sized}
use Rattle.box_problem.specs.Box.{Box, IsBox, Inside}
use Rattle.term_language.specs.Terms.{Term, Constant, Cell, Sum, Product, Made, Selected, Element, Number, Parts, no_part, part}
use Rattle.term_language.specs.Ends.{Ends, exactly, plus, between, scaled, times, cell_ends}
use Rattle.term_language.specs.Forms.{Coefficient, Form, is_constant, sign, cells_ends, whole}
use Rattle.term_language.specs.Rules.{element_form, Reading, Wide, folded, unless_folded, form, forms, atoms, sum_atoms, interval, product_atoms}
use Rattle.term_language.specs.Sizes.{weight_of, cells_weight, alone_weight, product_weight, atoms_weight, sum_weight, size}
use Rattle.term_language.specs.Laws.{IsAtMost, IsProper, AreProperParts}
use Rattle.term_language.proofs.FormValues.{by_bool}
use Rattle.term_language.proofs.Sharpening.{intervals_narrow}

-- a number of at most this size
abbrev pub Small : ℤ → ℕ → Type 0
Small z n = (neg_ℤ (pos n) ≤ℤ z) × (z ≤ℤ pos n)

pub small : (z : ℤ) (n : ℕ) → unsigned_abs z ≤ n → Small z n
small (pos a) n below = (omega (arith, ints), omega (arith, ints))
small (negsuc a) n below = (omega (arith, ints), omega (arith, ints))

pub small_multiple : (k z : ℤ) (n : ℕ) → unsigned_abs z ≤ n → Small (k *ℤ z) (unsigned_abs k * n)
small_multiple k z n below =
    small (k *ℤ z) (unsigned_abs k * n) (omega (arith, unsigned_abs-mul k z, mul-le-mul_left (unsigned_abs k) below))

-- both ends, too
pub record Bounds (a : Ends) (n : ℕ) : Type 0 where
  pub low : unsigned_abs a.low ≤ n
  pub high : unsigned_abs a.high ≤ n

pub bounds_zero : (n : ℕ) → Bounds (exactly (pos 0)) n
bounds_zero n = record { low = omega arith; high = omega arith }

pub bounds_plus : (a c : Ends) (m n : ℕ) → Bounds a m → Bounds c n → Bounds (plus a c) (m + n)
bounds_plus a c m n p q =
    let a_low = small a.low m p.low in
    let a_high = small a.high m p.high in
    let c_low = small c.low n q.low in
    let c_high = small c.high n q.high in
    record {
      low = sized (a.low +ℤ c.low) (m + n) (omega (arith, ints, a_low.0, c_low.0)) (omega (arith, ints, a_low.1, c_low.1));
      high = sized (a.high +ℤ c.high) (m + n) (omega (arith, ints, a_high.0, c_high.0)) (omega (arith, ints, a_high.1, c_high.1));
    }

pub bounds_between : (x y : ℤ) (n : ℕ) → Small x n → Small y n → Bounds (between x y) n
bounds_between x y n p q = record {
  low = sized (between x y).low n (omega (arith, ints, clamps, p.0, q.0)) (omega (arith, ints, clamps, p.1, q.1));
  high = sized (between x y).high n (omega (arith, ints, clamps, p.0, q.0)) (omega (arith, ints, clamps, p.1, q.1));
}

pub bounds_scaled : (k : ℤ) (a : Ends) (n : ℕ) → Bounds a n → Bounds (scaled k a) (unsigned_abs k * n)
bounds_scaled k a n p =
    bounds_between (k *ℤ a.low) (k *ℤ a.high) (unsigned_abs k * n) (small_multiple k a.low n p.low) (small_multiple k a.high n p.high)

pub bounds_weight : (a : Ends) → Bounds a (weight_of a)
bounds_weight a = record { low = omega arith; high = omega arith }

-- what stands alone
pub bounds_folded : (fold : Bool) (z : ℤ) (a : Ends) → Bounds (unless_folded fold a) (alone_weight (folded fold z) (unless_folded fold a))
bounds_folded true z a = bounds_zero 0
bounds_folded false z a = bounds_weight a

pub bounds_alone : (f : Form) (a : Ends) → Bounds (unless_folded f.plain a) (alone_weight f (unless_folded f.plain a))
bounds_alone f a =
    by_bool (λ plain. Bounds (unless_folded plain a) (if plain then 0 else weight_of (unless_folded plain a))) f.plain
    (λ plain. bounds_zero 0) (λ other. bounds_weight a)

pub bounds_product : (root : Box) (f g : Form) (a c : Ends) (m n : ℕ) → Bounds a m → Bounds c n → Bounds (product_atoms root f g a c) (product_weight f g m n (product_atoms root f g a c))
bounds_product root f g a c m n p q =
    by_bool (λ constant. Bounds (if constant then scaled f.constant c else if is_constant g then scaled g.constant a else times (whole root f a) (whole root g c))
    (if constant then unsigned_abs f.constant * n else if is_constant g then unsigned_abs g.constant * m else weight_of
    (if constant then scaled f.constant c else if is_constant g then scaled g.constant a else times (whole root f a) (whole root g c)))) (is_constant f)
    (λ constant. bounds_scaled f.constant c n q)
    (λ other.
    by_bool (λ constant. Bounds (if constant then scaled g.constant a else times (whole root f a) (whole root g c))
    (if constant then unsigned_abs g.constant * m else weight_of (if constant then scaled g.constant a else times (whole root f a) (whole root g c)))) (is_constant g)
    (λ constant. bounds_scaled g.constant a m p)
    (λ neither. bounds_weight (times (whole root f a) (whole root g c))))

pub sign_size : (subtracted : Bool) → unsigned_abs (sign subtracted) ≡ 1
sign_size true = refl
sign_size false = refl

mutual
  pub bounded : (root : Box) (t : Term) → IsProper t → Bounds (atoms Wide root root t) (atoms_weight root t)
  bounded root (Constant z) proper = bounds_zero 0
  bounded root (Cell cell) proper = bounds_zero 0
  bounded root (Sum parts) proper = bounded_parts root parts proper
  bounded root (Product a c) proper =
      bounds_product root (form root a) (form root c) (atoms Wide root root a) (atoms Wide root root c) (atoms_weight root a) (atoms_weight root c) (bounded root a proper.0) (bounded root c proper.1)
  bounded root (Made op a) proper = bounds_folded _ _ _
  bounded root (Selected which a later) proper = bounds_folded _ _ _
  bounded root (Element table at) proper = bounds_alone (element_form table (forms root at)) _
  bounded root (Number c) proper = bounds_weight (atoms Wide root root (Number c))

  pub bounded_parts : (root : Box) (parts : Parts) → AreProperParts parts → Bounds (sum_atoms Wide root root parts) (sum_weight root parts)
  bounded_parts root no_part proper = bounds_zero 0
  bounded_parts root (part subtracted t later) proper =
      let once = bounds_scaled (sign subtracted) (atoms Wide root root t) (atoms_weight root t) (bounded root t proper.0) in
      let same : unsigned_abs (sign subtracted) * atoms_weight root t ≡ atoms_weight root t = ap (λ (n : ℕ). n * atoms_weight root t) (sign_size subtracted) ∙ omega arith in
      bounds_plus (scaled (sign subtracted) (atoms Wide root root t)) (sum_atoms Wide root root later) (atoms_weight root t) (sum_weight root later)
      (subst (λ (n : ℕ). Bounds (scaled (sign subtracted) (atoms Wide root root t)) n) same once) (bounded_parts root later proper.1)

-- the cells, and all of it
pub bounded_cells : (root : Box) (cells : List Coefficient) → Bounds (cells_ends root cells) (cells_weight root cells)
bounded_cells root [] = bounds_zero 0
bounded_cells root (c ∷ later) =
    bounds_plus (scaled c.k (cell_ends root c.cell)) (cells_ends root later) (unsigned_abs c.k * weight_of (cell_ends root c.cell)) (cells_weight root later)
    (bounds_scaled c.k (cell_ends root c.cell) (weight_of (cell_ends root c.cell)) (bounds_weight (cell_ends root c.cell))) (bounded_cells root later)

pub bounded_whole : (root : Box) (t : Term) → IsProper t → Bounds (interval Wide root root t) (size root t)
bounded_whole root t proper =
    let all = bounds_plus (exactly (form root t).constant) (plus (cells_ends root (form root t).cells) (atoms Wide root root t)) (unsigned_abs (form root t).constant)
    (cells_weight root (form root t).cells + atoms_weight root t)
    (record { low = omega arith; high = omega arith })
    (bounds_plus (cells_ends root (form root t).cells) (atoms Wide root root t) (cells_weight root (form root t).cells) (atoms_weight root t) (bounded_cells root (form root t).cells)
    (bounded root t proper)) in
    record { low = omega (arith, all.low); high = omega (arith, all.high) }

pub sizes_bound : (reading : Reading) (root part : Box) (t : Term) → IsBox root → Inside part root → IsProper t → IsAtMost (interval reading root part t) (size root t)
sizes_bound reading root b t is_box inside proper =
    let narrow = intervals_narrow reading root b root t is_box inside proper in
    let all = bounded_whole root t proper in
    let low = small (interval Wide root root t).low (size root t) all.low in
    let high = small (interval Wide root root t).high (size root t) all.high in
    record { above = omega (arith, ints, narrow.from_low, low.0); below = omega (arith, ints, narrow.to_high, high.1) }
