-- How large the numbers of sums of forms get.
use Rattle.std.proofs.Common.{◌≡◌, ℕ, ◌+◌, ◌*◌, ◌-◌, ◌<◌, ◌≤◌, ◌^◌, zero, suc, nat_lt, nat_eq, ℤ, pos, ◌+ℤ◌, ◌*ℤ◌, unsigned_abs, List, [], ◌∷◌, length, get_or, drop, arith}
use Rattle.std.proofs.Common.{SFits, FitsSigned, to_z, of_z, refl, ap, subst, sym, ◌∙◌, if◌then◌else◌}
use Rattle.std.proofs.lemmas.Int.{unsigned_abs-mul, to_z-of_z, fits_signed_from_abs}
use Rattle.std.proofs.lemmas.List.{at_drop_more, get_or_default}
use Rattle.std.proofs.Math.Nat.{mul-le-mul_right, mul-le-mul_left, mul_assoc}
use Rattle.std.specs.Int.{w128}
use Rattle.std.specs.Ordering.{int_eq}
use Rattle.sopl_base.proofs.Sizes.{plus_size}
use Rattle.sopl_base.proofs.Naturals.{spread, spread_left}
use Rattle.box_problem.specs.Box.{Box}
use Rattle.term_language.specs.Ends.{cell_ends}
use Rattle.term_language.specs.Forms.{Coefficient, Form, number_form, unless_zero, put, combined}
use Rattle.term_language.specs.Sizes.{weight_of, cells_weight}
use Rattle.term_language.proofs.FormValues.{by_if, same_cell}
use Rattle.term_math.specs.declared.forms.Coefficient as own
use Rattle.term_math.specs.Shown.{cells_of}
use Rattle.term_math.specs.Sums.{weighted, mass, mass_of}

unless_zero_weighted : (w : ℕ → ℕ) (cell : ℕ) (k : ℤ) (later : List Coefficient) → weighted w (unless_zero cell k later) ≤ unsigned_abs k * w cell + weighted w later
unless_zero_weighted w cell k later =
    by_if (λ cells. weighted w cells ≤ unsigned_abs k * w cell + weighted w later) (int_eq k (pos 0)) later (record { cell = cell; k = k } ∷ later)
    (λ zero. omega arith) (λ other. omega arith)

pub put_weighted : (w : ℕ → ℕ) (cell : ℕ) (k : ℤ) (cells : List Coefficient) → weighted w (put cell k cells) ≤ unsigned_abs k * w cell + weighted w cells
put_weighted w cell k [] = unless_zero_weighted w cell k []
put_weighted w cell k (c ∷ later) =
    by_if (λ cells. weighted w cells ≤ unsigned_abs k * w cell + (unsigned_abs c.k * w c.cell + weighted w later)) (nat_lt c.cell cell)
    (c ∷ put cell k later) (if nat_eq c.cell cell then unless_zero cell (c.k +ℤ k) later else unless_zero cell k (c ∷ later))
    (λ before. omega (arith, put_weighted w cell k later))
    (λ behind.
    by_if (λ cells. weighted w cells ≤ unsigned_abs k * w cell + (unsigned_abs c.k * w c.cell + weighted w later)) (nat_eq c.cell cell)
    (unless_zero cell (c.k +ℤ k) later) (unless_zero cell k (c ∷ later))
    (λ same.
    let here : unsigned_abs c.k * w c.cell ≡ unsigned_abs c.k * w cell = ap (λ (n : ℕ). unsigned_abs c.k * w n) (same_cell c.cell cell same) in
    let sum : unsigned_abs (c.k +ℤ k) * w cell ≤ (unsigned_abs c.k + unsigned_abs k) * w cell = mul-le-mul_right (w cell) (plus_size c.k k) in
    omega (arith, unless_zero_weighted w cell (c.k +ℤ k) later, here, sum, spread (unsigned_abs c.k) (unsigned_abs k) (w cell)))
    (λ other. unless_zero_weighted w cell k (c ∷ later)))

pub combined_weighted : (w : ℕ → ℕ) (factor : ℤ) (cells others : List Coefficient) → weighted w (combined factor cells others) ≤ weighted w cells + unsigned_abs factor * weighted w others
combined_weighted w factor cells [] = omega arith
combined_weighted w factor cells (c ∷ later) =
    let here : unsigned_abs (factor *ℤ c.k) * w c.cell ≡ unsigned_abs factor * (unsigned_abs c.k * w c.cell) = ap (λ (n : ℕ). n * w c.cell) (unsigned_abs-mul factor c.k)
    ∙ mul_assoc (unsigned_abs factor) (unsigned_abs c.k) (w c.cell) in
    omega (
      arith,
      put_weighted w c.cell (factor *ℤ c.k) (combined factor cells later),
      combined_weighted w factor cells later,
      here,
      spread_left (unsigned_abs factor) (unsigned_abs c.k * w c.cell) (weighted w later),
    )

-- what is left from a coefficient on is no more than all
pub weighted_drop : (w : ℕ → ℕ) (i : ℕ) (xs : List own.Coefficient) → weighted w (cells_of (drop i xs)) ≤ weighted w (cells_of xs)
weighted_drop w zero xs = omega arith
weighted_drop w (suc i) [] = omega arith
weighted_drop w (suc i) (x ∷ xs) = omega (arith, weighted_drop w i xs)

pub weighted_next : (w : ℕ → ℕ) (xs : List own.Coefficient) (i : ℕ) (x : own.Coefficient) → i < length xs → x ≡ get_or xs i x → weighted w (cells_of (drop i xs))
    ≡ unsigned_abs x.k * w x.cell + weighted w (cells_of (drop (i + 1) xs))
weighted_next w xs i x below at =
    at_drop_more (λ ys. weighted w (cells_of ys)) xs i x below
    ∙ ap (λ (y : own.Coefficient). unsigned_abs y.k * w y.cell + weighted w (cells_of (drop (i + 1) xs))) (sym at)

-- so there is room for each step of a sum where there is room for all of it
pub room_at : (factor : ℤ) (base : List Coefficient) (xs : List own.Coefficient) (i : ℕ) (x : own.Coefficient) → i < length xs → x ≡ get_or xs i x
    → mass base + unsigned_abs factor * mass (cells_of xs) < 2 ^ 127 → mass (combined factor base (cells_of (drop (i + 1) xs))) + unsigned_abs (factor *ℤ x.k) < 2 ^ 127
room_at factor base xs i x below at room =
    let far = combined_weighted (λ cell. 1) factor base (cells_of (drop (i + 1) xs)) in
    let next = weighted_next (λ cell. 1) xs i x below at in
    let most : unsigned_abs factor * mass (cells_of (drop i xs)) ≤ unsigned_abs factor * mass (cells_of xs) = mul-le-mul_left (unsigned_abs factor) (weighted_drop (λ cell. 1) i xs) in
    let parts : unsigned_abs factor * mass (cells_of (drop i xs))
    ≡ unsigned_abs factor * (unsigned_abs x.k * 1) + unsigned_abs factor * mass (cells_of (drop (i + 1) xs)) = ap (λ (n : ℕ). unsigned_abs factor * n) next
    ∙ spread_left (unsigned_abs factor) (unsigned_abs x.k * 1) (mass (cells_of (drop (i + 1) xs))) in
    let once : unsigned_abs factor * (unsigned_abs x.k * 1) ≡ unsigned_abs factor * unsigned_abs x.k = ap (λ (n : ℕ). unsigned_abs factor * n) (omega arith) in
    omega (arith, far, most, parts, once, unsigned_abs-mul factor x.k, room)

pub next_combined : (factor : ℤ) (base : List Coefficient) (xs : List own.Coefficient) (i : ℕ) (x : own.Coefficient) → i < length xs → x ≡ get_or xs i x → combined factor base (cells_of (drop i xs))
    ≡ put x.cell (factor *ℤ x.k) (combined factor base (cells_of (drop (i + 1) xs)))
next_combined factor base xs i x below at =
    at_drop_more (λ ys. combined factor base (cells_of ys)) xs i x below
    ∙ ap (λ (y : own.Coefficient). put y.cell (factor *ℤ y.k) (combined factor base (cells_of (drop (i + 1) xs)))) (sym at)

pub cells_weighted : (root : Box) (cells : List Coefficient) → cells_weight root cells ≡ weighted (λ cell. weight_of (cell_ends root cell)) cells
cells_weighted root [] = refl
cells_weighted root (c ∷ later) = ap (λ (n : ℕ). unsigned_abs c.k * weight_of (cell_ends root c.cell) + n) (cells_weighted root later)

-- coefficients are no larger than their weights
pub mass_weight : (root : Box) (cells : List Coefficient) → mass cells ≤ cells_weight root cells
mass_weight root [] = omega arith
mass_weight root (c ∷ later) =
    let one : 1 ≤ weight_of (cell_ends root c.cell) = omega arith in
    omega (arith, mass_weight root later, mul-le-mul_left (unsigned_abs c.k) one)

-- sums of 128 bits
pub wide_fits : (x y : ℤ) → SFits w128 x → SFits w128 y → unsigned_abs x + unsigned_abs y < 2 ^ 127 → FitsSigned w128 (to_z w128 (of_z w128 x) +ℤ to_z w128 (of_z w128 y))
wide_fits x y fx fy room =
    rw (to_z-of_z w128 x fx, to_z-of_z w128 y fy) (fits_signed_from_abs w128 (x +ℤ y) (omega (arith, plus_size x y, room)))

pub wide_sum : (x y : ℤ) → SFits w128 x → SFits w128 y → unsigned_abs x + unsigned_abs y < 2 ^ 127 → to_z w128 (of_z w128 (to_z w128 (of_z w128 x) +ℤ to_z w128 (of_z w128 y))) ≡ x +ℤ y
wide_sum x y fx fy room =
    rw (to_z-of_z w128 x fx, to_z-of_z w128 y fy) (to_z-of_z w128 (x +ℤ y) (fits_signed_from_abs w128 (x +ℤ y) (omega (arith, plus_size x y, room))))

pub room_for_constant : (f g : Form) (factor : ℤ) → mass_of f + unsigned_abs factor * mass_of g < 2 ^ 127 → unsigned_abs f.constant + unsigned_abs (factor *ℤ g.constant) < 2 ^ 127
room_for_constant f g factor room =
    omega (arith, unsigned_abs-mul factor g.constant, spread_left (unsigned_abs factor) (unsigned_abs g.constant) (mass g.cells), room)

pub room_for_cells : (f g : Form) (factor : ℤ) → mass_of f + unsigned_abs factor * mass_of g < 2 ^ 127 → mass f.cells + unsigned_abs factor * mass g.cells < 2 ^ 127
room_for_cells f g factor room =
    omega (arith, spread_left (unsigned_abs factor) (unsigned_abs g.constant) (mass g.cells), room)

-- there is room for one coefficient more, in a loop that counts down
pub room_back : (factor : ℤ) (base : List Coefficient) (xs : List own.Coefficient) (i : ℕ) (d : own.Coefficient) → 0 < i → i ≤ length xs
    → mass base + unsigned_abs factor * mass (cells_of xs) < 2 ^ 127 → mass (combined factor base (cells_of (drop i xs))) + unsigned_abs (factor *ℤ (get_or xs (i - 1) d).k) < 2 ^ 127
room_back factor base xs i d positive most room =
    let below : i - 1 < length xs = omega (arith, positive, most) in
    let again : i - 1 + 1 ≡ i = omega (arith, positive) in
    subst (λ (j : ℕ). mass (combined factor base (cells_of (drop j xs))) + unsigned_abs (factor *ℤ (get_or xs (i - 1) d).k) < 2 ^ 127) again
    (room_at factor base xs (i - 1) (get_or xs (i - 1) d) below (get_or_default xs (i - 1) d (get_or xs (i - 1) d) below) room)

pub scaled_room : (sum g : Form) (k : ℤ) → sum ≡ number_form (pos 0) → unsigned_abs k * mass_of g < 2 ^ 127 → mass_of sum + unsigned_abs k * mass_of g < 2 ^ 127
scaled_room sum g k is room = omega (arith, room, ap mass_of is)
