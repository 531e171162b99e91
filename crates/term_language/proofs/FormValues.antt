-- What linear forms are worth at a point.
use Rattle.std.proofs.Common.{◌≡◌, inl, inr, ℕ, ◌≤◌, nat_lt, nat_eq, ℤ, pos, ◌+ℤ◌, ◌-ℤ◌, ◌*ℤ◌, Bool, true, false, ◌&&◌, if◌then◌else◌, List, [], ◌∷◌, length, get_or, arith, refl, ap, ◌∙◌}
use Rattle.std.proofs.lemmas.Int.{ints}
use Rattle.std.proofs.lemmas.List.{get_or_past}
use Rattle.std.proofs.lemmas.Bool.{cases_lt}
use Rattle.std.proofs.lemmas.Bool.Decides.{nat_tests}
use Rattle.std.proofs.Math.IntN.{zero-*ℤ, *ℤ-zero}
use Rattle.std.specs.Ordering.{int_eq}
use Rattle.sopl_base.proofs.Integers.{*ℤ-+ℤ, *ℤ_assoc, +ℤ-*ℤ}
use Rattle.box_problem.specs.Box.{Box, IsBox, InBox}
use Rattle.term_language.specs.Ends.{Ends, Lies, scaled, cell_ends}
use Rattle.term_language.specs.Forms.{Coefficient, Form, number_form, cell_form, is_empty, is_constant, unless_zero, put, combined, plus_form, times_form, cells_ends, whole}
use Rattle.term_language.specs.Values.{cell_value}
use Rattle.term_language.proofs.Products.{one-*ℤ, in_exactly, in_plus, in_scaled}

-- what holds of both choices holds of the one that is made
pub by_if : {A : Type 0} (P : A → Type 0) (b : Bool) (x y : A) → (b ≡ true → P x) → (b ≡ false → P y) → P (if b then x else y)
by_if P true x y met unmet = met refl
by_if P false x y met unmet = unmet refl

pub by_bool : (P : Bool → Type 0) (b : Bool) → (b ≡ true → P true) → (b ≡ false → P false) → P b
by_bool P true met unmet = met refl
by_bool P false met unmet = unmet refl

pub and_first : (a b : Bool) → (a && b) ≡ true → a ≡ true
and_first true b both = refl
and_first false b both = both

pub and_second : (a b : Bool) → (a && b) ≡ true → b ≡ true
and_second true b both = both
and_second false b both = cc

abbrev pub cells_value : List ℤ → List Coefficient → ℤ
cells_value p [] = pos 0
cells_value p (c ∷ later) = c.k *ℤ cell_value p c.cell +ℤ cells_value p later

abbrev pub form_value : List ℤ → Form → ℤ
form_value p f = f.constant +ℤ cells_value p f.cells

pub equal_numbers : (k : ℤ) → int_eq k (pos 0) ≡ true → k ≡ pos 0
equal_numbers k same = grind (arith, ints)

unless_zero_value : (p : List ℤ) (cell : ℕ) (k : ℤ) (later : List Coefficient) → cells_value p (unless_zero cell k later) ≡ k *ℤ cell_value p cell +ℤ cells_value p later
unless_zero_value p cell k later =
    by_if (λ cells. cells_value p cells ≡ k *ℤ cell_value p cell +ℤ cells_value p later) (int_eq k (pos 0)) later (record { cell = cell; k = k } ∷ later)
    (λ same. let none = ap (λ z. z *ℤ cell_value p cell) (equal_numbers k same) ∙ zero-*ℤ (cell_value p cell) in omega (arith, ints, none))
    (λ other. refl)

pub same_cell : (a b : ℕ) → nat_eq a b ≡ true → a ≡ b
same_cell a b same = grind (arith, nat_tests)

put_value : (p : List ℤ) (cell : ℕ) (k : ℤ) (cells : List Coefficient) → cells_value p (put cell k cells) ≡ k *ℤ cell_value p cell +ℤ cells_value p cells
put_value p cell k [] = unless_zero_value p cell k []
put_value p cell k (c ∷ later) =
    by_if (λ cells. cells_value p cells ≡ k *ℤ cell_value p cell +ℤ (c.k *ℤ cell_value p c.cell +ℤ cells_value p later)) (nat_lt c.cell cell)
    (c ∷ put cell k later) (if nat_eq c.cell cell then unless_zero cell (c.k +ℤ k) later else unless_zero cell k (c ∷ later))
    (λ before. omega (arith, ints, put_value p cell k later))
    (λ behind.
    by_if (λ cells. cells_value p cells ≡ k *ℤ cell_value p cell +ℤ (c.k *ℤ cell_value p c.cell +ℤ cells_value p later)) (nat_eq c.cell cell)
    (unless_zero cell (c.k +ℤ k) later) (unless_zero cell k (c ∷ later))
    (λ same.
    let here = ap (cell_value p) (same_cell c.cell cell same) in
    let each = ap (λ z. c.k *ℤ z) here in
    omega (arith, ints, unless_zero_value p cell (c.k +ℤ k) later, +ℤ-*ℤ c.k k (cell_value p cell), each))
    (λ other. unless_zero_value p cell k (c ∷ later)))

combined_value : (p : List ℤ) (factor : ℤ) (cells others : List Coefficient) → cells_value p (combined factor cells others) ≡ cells_value p cells +ℤ factor *ℤ cells_value p others
combined_value p factor cells [] = omega (arith, ints, *ℤ-zero factor)
combined_value p factor cells (c ∷ later) =
    omega (
      arith,
      ints,
      put_value p c.cell (factor *ℤ c.k) (combined factor cells later),
      combined_value p factor cells later,
      *ℤ_assoc factor c.k (cell_value p c.cell),
      *ℤ-+ℤ factor (c.k *ℤ cell_value p c.cell) (cells_value p later),
    )

pub plus_value : (p : List ℤ) (factor : ℤ) (f g : Form) → form_value p (plus_form factor f g) ≡ form_value p f +ℤ factor *ℤ form_value p g
plus_value p factor f g =
    omega (arith, ints, combined_value p factor f.cells g.cells, *ℤ-+ℤ factor g.constant (cells_value p g.cells))

pub times_value : (p : List ℤ) (factor : ℤ) (f : Form) → form_value p (times_form factor f) ≡ factor *ℤ form_value p f
times_value p factor f = omega (arith, ints, plus_value p factor (number_form (pos 0)) f)

pub cell_form_value : (p : List ℤ) (cell : ℕ) → form_value p (cell_form cell) ≡ cell_value p cell
cell_form_value p cell = omega (arith, ints, one-*ℤ (cell_value p cell))

-- a form that is a number
empty_cells : (p : List ℤ) (cells : List Coefficient) → is_empty cells ≡ true → cells_value p cells ≡ pos 0
empty_cells p [] empty = refl
empty_cells p (c ∷ later) empty = cc

pub constant_value : (p : List ℤ) (f : Form) → is_constant f ≡ true → form_value p f ≡ f.constant
constant_value p f constant = omega (arith, ints, empty_cells p f.cells (and_second f.plain (is_empty f.cells) constant))

pub constant_plain : (f : Form) → is_constant f ≡ true → f.plain ≡ true
constant_plain f constant = and_first f.plain (is_empty f.cells) constant

-- cells at a point of a box
pub missing : (xs : List ℤ) (cell : ℕ) → length xs ≤ cell → get_or xs cell (pos 0) ≡ pos 0
missing xs cell past = get_or_past xs cell (pos 0) past

pub cell_lies : (b : Box) (p : List ℤ) → IsBox b → InBox b p → (cell : ℕ) → Lies (cell_value p cell) (cell_ends b cell)
cell_lies b p is_box q cell =
    elim (cases_lt cell (length p)) [
      | inl there ↦ record { from_low = q.from_low cell there; to_high = q.to_high cell there }
      | inr past ↦
          let none = missing p cell past in
          let low = missing b.lows cell (omega (arith, q.same_cells)) in
          let high = missing b.highs cell (omega (arith, q.same_cells, is_box.paired)) in
          record { from_low = omega (arith, ints, none, low); to_high = omega (arith, ints, none, high) }
    ]

cells_lie : (b : Box) (p : List ℤ) → IsBox b → InBox b p → (cells : List Coefficient) → Lies (cells_value p cells) (cells_ends b cells)
cells_lie b p is_box q [] = in_exactly (pos 0) (pos 0) refl
cells_lie b p is_box q (c ∷ later) =
    in_plus (c.k *ℤ cell_value p c.cell) (cells_value p later) (scaled c.k (cell_ends b c.cell)) (cells_ends b later)
    (in_scaled c.k (cell_value p c.cell) (cell_ends b c.cell) (cell_lies b p is_box q c.cell))
    (cells_lie b p is_box q later)

-- what is left of a number where the value of its form is taken away
abbrev pub Off : List ℤ → ℤ → Form → Ends → Type 0
Off p x f a = Lies (x -ℤ form_value p f) a

pub whole_lies : (b : Box) (p : List ℤ) (x : ℤ) (f : Form) (a : Ends) → IsBox b → InBox b p → Off p x f a → Lies x (whole b f a)
whole_lies b p x f a is_box q off =
    let cells = cells_lie b p is_box q f.cells in
    record {
      from_low = omega (arith, ints, off.from_low, cells.from_low);
      to_high = omega (arith, ints, off.to_high, cells.to_high);
    }
