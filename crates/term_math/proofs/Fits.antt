-- Where sizes over the root are small, all that is computed over a box inside it has room.
use Rattle.std.proofs.Common.{◌≡◌, ℕ, ◌+◌, ◌*◌, ◌<◌, ◌≤◌, ◌^◌, ℤ, negsuc, ◌*ℤ◌, unsigned_abs, true, false, List, length, get_or, drop, w64, arith, refl, subst}
use Rattle.std.proofs.lemmas.Int.{ints, clamps, unsigned_abs-mul, fits_signed_from_abs}
use Rattle.std.proofs.Math.Nat.{mul-le-mul_left}
use Rattle.sopl_base.proofs.Sizes.{sized}
use Rattle.box_problem.specs.Box.{Box, IsBox, Inside}
use Rattle.term_language.specs.Ends as rule
use Rattle.term_language.specs.Forms.{is_constant, cells_ends, whole}
use Rattle.term_language.specs.Rules.{product_atoms}
use Rattle.term_language.specs.Sizes.{weight_of, cells_weight}
use Rattle.term_language.proofs.Bounds.{Bounds, small, bounds_plus, bounds_scaled, bounds_weight, bounded_cells}
use Rattle.term_language.proofs.Narrowing.{within_cell, within_cells}
use Rattle.term_language.proofs.Shared.{bounds_within}
use Rattle.term_math.specs.declared.forms.Coefficient.{Coefficient}
use Rattle.term_math.specs.declared.forms.Form.{Form}
use Rattle.term_math.specs.Shown.{IsFit, CellsFit, WholeFits, ProductFits, DifferenceFits, ends_at, cells_of, form_of}
use Rattle.term_math.proofs.Weights.{cells_weighted, weighted_drop, weighted_next}

pub fit : (a : rule.Ends) (n : ℕ) → Bounds a n → n < 2 ^ 63 → IsFit a
fit a n bounds room = record {
  low = fits_signed_from_abs w64 a.low (omega (arith, bounds.low, room));
  high = fits_signed_from_abs w64 a.high (omega (arith, bounds.high, room));
}

pub fit_at : (k : ℤ) (a : rule.Ends) (n : ℕ) → Bounds a n → unsigned_abs k * n < 2 ^ 63 → IsFit (ends_at k a)
fit_at k a n bounds room = record {
  low = fits_signed_from_abs w64 (k *ℤ a.low) (omega (arith, unsigned_abs-mul k a.low, mul-le-mul_left (unsigned_abs k) bounds.low, room));
  high = fits_signed_from_abs w64 (k *ℤ a.high) (omega (arith, unsigned_abs-mul k a.high, mul-le-mul_left (unsigned_abs k) bounds.high, room));
}

-- the cells of a form
pub cells_bounds : (root b : Box) (cells : List Coefficient) → IsBox root → Inside b root → Bounds (cells_ends b (cells_of cells)) (cells_weight root (cells_of cells))
cells_bounds root b cells is_box inside =
    bounds_within (cells_ends b (cells_of cells)) (cells_ends root (cells_of cells)) (cells_weight root (cells_of cells)) (within_cells b root (cells_of cells) is_box inside)
    (bounded_cells root (cells_of cells))

drop_lighter : (root : Box) (i : ℕ) (cells : List Coefficient) → cells_weight root (cells_of (drop i cells)) ≤ cells_weight root (cells_of cells)
drop_lighter root i cells =
    omega (arith, weighted_drop (λ cell. weight_of (rule.cell_ends root cell)) i cells, cells_weighted root (cells_of (drop i cells)), cells_weighted root (cells_of cells))

times_lighter : (root : Box) (cells : List Coefficient) (i : ℕ) (c : Coefficient) → i < length cells → c ≡ get_or cells i c
    → unsigned_abs c.k * weight_of (rule.cell_ends root c.cell) ≤ cells_weight root (cells_of cells)
times_lighter root cells i c below at =
    omega (
      arith,
      weighted_next (λ cell. weight_of (rule.cell_ends root cell)) cells i c below at,
      weighted_drop (λ cell. weight_of (rule.cell_ends root cell)) i cells,
      cells_weighted root (cells_of cells),
    )

pub cells_fit : (root b : Box) (cells : List Coefficient) → IsBox root → Inside b root → cells_weight root (cells_of cells) < 2 ^ 63 → CellsFit b cells
cells_fit root b cells is_box inside room = record {
  each = λ i c below at.
      let bounds = bounds_within (rule.cell_ends b c.cell) (rule.cell_ends root c.cell) (weight_of (rule.cell_ends root c.cell)) (within_cell b root c.cell is_box inside)
      (bounds_weight (rule.cell_ends root c.cell)) in
      fit_at c.k (rule.cell_ends b c.cell) (weight_of (rule.cell_ends root c.cell)) bounds (omega (arith, times_lighter root cells i c below at, room));
  sums = λ i. fit (cells_ends b (cells_of (drop i cells))) (cells_weight root (cells_of (drop i cells))) (cells_bounds root b (drop i cells) is_box inside)
      (omega (arith, drop_lighter root i cells, room));
}

-- the form
pub whole_bounds : (root b : Box) (f : Form) (atoms : rule.Ends) (n : ℕ) → IsBox root → Inside b root → Bounds atoms n
    → Bounds (whole b (form_of f) atoms) (unsigned_abs f.constant + (cells_weight root (cells_of f.cells.items) + n))
whole_bounds root b f atoms n is_box inside bounds =
    bounds_plus (rule.exactly f.constant) (rule.plus (cells_ends b (cells_of f.cells.items)) atoms) (unsigned_abs f.constant) (cells_weight root (cells_of f.cells.items) + n)
    (record { low = omega arith; high = omega arith })
    (bounds_plus (cells_ends b (cells_of f.cells.items)) atoms (cells_weight root (cells_of f.cells.items)) n (cells_bounds root b f.cells.items is_box inside) bounds)

pub whole_fits : (root b : Box) (f : Form) (atoms : rule.Ends) (n : ℕ) → IsBox root → Inside b root → Bounds atoms n
    → unsigned_abs f.constant + (cells_weight root (cells_of f.cells.items) + n) < 2 ^ 63 → WholeFits b f atoms
whole_fits root b f atoms n is_box inside bounds room = record {
  cells = cells_fit root b f.cells.items is_box inside (omega (arith, room));
  others = fit (rule.plus (cells_ends b (cells_of f.cells.items)) atoms) (cells_weight root (cells_of f.cells.items) + n)
      (bounds_plus (cells_ends b (cells_of f.cells.items)) atoms (cells_weight root (cells_of f.cells.items)) n (cells_bounds root b f.cells.items is_box inside) bounds) (omega (arith, room));
  whole = fit (whole b (form_of f) atoms) (unsigned_abs f.constant + (cells_weight root (cells_of f.cells.items) + n)) (whole_bounds root b f atoms n is_box inside bounds) room;
}

-- a product has room where its interval has
hull_parts : (x y z w : ℤ) (n : ℕ) → Bounds (rule.hull (rule.between x y) (rule.between z w)) n → Bounds (rule.ends x y) n × Bounds (rule.ends z w) n
hull_parts x y z w n bounds =
    let low = small (rule.hull (rule.between x y) (rule.between z w)).low n bounds.low in
    let high = small (rule.hull (rule.between x y) (rule.between z w)).high n bounds.high in (
      record {
        low = sized x n (omega (arith, ints, clamps, low.0)) (omega (arith, ints, clamps, high.1));
        high = sized y n (omega (arith, ints, clamps, low.0)) (omega (arith, ints, clamps, high.1));
      },
      record {
        low = sized z n (omega (arith, ints, clamps, low.0)) (omega (arith, ints, clamps, high.1));
        high = sized w n (omega (arith, ints, clamps, low.0)) (omega (arith, ints, clamps, high.1));
      },
    )

times_parts : (a c : rule.Ends) (n : ℕ) → Bounds (rule.times a c) n → Bounds (ends_at a.low c) n × Bounds (ends_at a.high c) n
times_parts a c n bounds = hull_parts (a.low *ℤ c.low) (a.low *ℤ c.high) (a.high *ℤ c.low) (a.high *ℤ c.high) n bounds

product_times : (b : Box) (f g : Form) (f_atoms g_atoms : rule.Ends) → is_constant (form_of f) ≡ false → is_constant (form_of g) ≡ false → product_atoms b (form_of f) (form_of g) f_atoms g_atoms
    ≡ rule.times (whole b (form_of f) f_atoms) (whole b (form_of g) g_atoms)
product_times b f g f_atoms g_atoms left right = rw (left, right) refl

product_left : (b : Box) (f g : Form) (f_atoms g_atoms : rule.Ends) → is_constant (form_of f) ≡ true → product_atoms b (form_of f) (form_of g) f_atoms g_atoms ≡ rule.scaled f.constant g_atoms
product_left b f g f_atoms g_atoms left = rw left refl

product_right : (b : Box) (f g : Form) (f_atoms g_atoms : rule.Ends) → is_constant (form_of f) ≡ false → is_constant (form_of g) ≡ true → product_atoms b (form_of f) (form_of g) f_atoms g_atoms
    ≡ rule.scaled g.constant f_atoms
product_right b f g f_atoms g_atoms left right = rw (left, right) refl

between_ends : (x y : ℤ) (n : ℕ) → Bounds (rule.between x y) n → Bounds (rule.ends x y) n
between_ends x y n bounds =
    let low = small (rule.between x y).low n bounds.low in
    let high = small (rule.between x y).high n bounds.high in
    record {
      low = sized x n (omega (arith, ints, clamps, low.0)) (omega (arith, ints, clamps, high.1));
      high = sized y n (omega (arith, ints, clamps, low.0)) (omega (arith, ints, clamps, high.1));
    }

pub product_fits : (root b : Box) (f g : Form) (f_atoms g_atoms : rule.Ends) (m n k : ℕ) → IsBox root → Inside b root → Bounds f_atoms m → Bounds g_atoms n
    → unsigned_abs f.constant + (cells_weight root (cells_of f.cells.items) + m) < 2 ^ 63 → unsigned_abs g.constant + (cells_weight root (cells_of g.cells.items) + n) < 2 ^ 63
    → Bounds (product_atoms b (form_of f) (form_of g) f_atoms g_atoms) k → k < 2 ^ 63 → ProductFits b f g f_atoms g_atoms
product_fits root b f g f_atoms g_atoms m n k is_box inside f_bounds g_bounds f_room g_room bounds room = record {
  left = λ constant. fit (ends_at f.constant g_atoms) k (between_ends (f.constant *ℤ g_atoms.low) (f.constant *ℤ g_atoms.high) k
      (subst (λ a. Bounds a k) (product_left b f g f_atoms g_atoms constant) bounds)) room;
  right = λ other constant. fit (ends_at g.constant f_atoms) k
      (between_ends (g.constant *ℤ f_atoms.low) (g.constant *ℤ f_atoms.high) k (subst (λ a. Bounds a k) (product_right b f g f_atoms g_atoms other constant) bounds)) room;
  left_whole = λ other another. whole_fits root b f f_atoms m is_box inside f_bounds f_room;
  right_whole = λ other another. whole_fits root b g g_atoms n is_box inside g_bounds g_room;
  low = λ other another. fit (ends_at (whole b (form_of f) f_atoms).low (whole b (form_of g) g_atoms)) k
      (times_parts (whole b (form_of f) f_atoms) (whole b (form_of g) g_atoms) k (subst (λ a. Bounds a k) (product_times b f g f_atoms g_atoms other another) bounds)).0 room;
  high = λ other another. fit (ends_at (whole b (form_of f) f_atoms).high (whole b (form_of g) g_atoms)) k
      (times_parts (whole b (form_of f) f_atoms) (whole b (form_of g) g_atoms) k (subst (λ a. Bounds a k) (product_times b f g f_atoms g_atoms other another) bounds)).1 room;
}

-- and a difference, where its operands are small
pub difference_fits : (root b : Box) (f : Form) (left right : rule.Ends) (m n : ℕ) → IsBox root → Inside b root → Bounds left m → Bounds right n
    → unsigned_abs f.constant + (cells_weight root (cells_of f.cells.items) + (m + n)) < 2 ^ 63 → DifferenceFits b f left right
difference_fits root b f left right m n is_box inside left_bounds right_bounds room =
    let once : unsigned_abs (negsuc 0) * n ≡ n = omega arith in
    let turned : Bounds (rule.scaled (negsuc 0) right) n = subst (λ (k : ℕ). Bounds (rule.scaled (negsuc 0) right) k) once (bounds_scaled (negsuc 0) right n right_bounds) in
    let atoms : Bounds (rule.plus left (rule.scaled (negsuc 0) right)) (m + n) = bounds_plus left (rule.scaled (negsuc 0) right) m n left_bounds turned in
    record {
      subtracted = fit_at (negsuc 0) right n right_bounds (omega (arith, once, room));
      atoms = fit (rule.plus left (rule.scaled (negsuc 0) right)) (m + n) atoms (omega (arith, room));
      whole = whole_fits root b f (rule.plus left (rule.scaled (negsuc 0) right)) (m + n) is_box inside atoms room;
    }
