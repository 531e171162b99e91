-- What sums of forms stand for as they are kept, and how large their numbers are.
use Rattle.std.specs.Prelude.{ℕ, ◌+◌, ◌*◌, ℤ, pos, Bool, not, List, [], ◌∷◌, map}
use Rattle.std.specs.Int.RustNames.{unsigned_abs}
use Rattle.box_problem.specs.Box.{Box}
use Rattle.term_language.specs.Sizes.{cells_weight}
use Rattle.term_math.specs.declared.forms.Coefficient as own
use Rattle.std.specs.Ordering.{int_eq}
use Rattle.term_language.specs.Forms.{Coefficient, Form, unless_zero}
use Rattle.term_math.specs.declared.combinations.WideCoefficient.{WideCoefficient}
use Rattle.term_math.specs.declared.combinations.WideForm.{WideForm}
use Rattle.term_math.specs.declared.combinations.Combination.{Combination}

-- the entries that are not 0
abbrev pub nonzero : List (ℕ × ℤ) → List Coefficient
nonzero [] = []
nonzero (e ∷ es) = unless_zero e.0 e.1 (nonzero es)

-- which entries those are, and what each of them is as it is kept
abbrev pub is_there : ℕ × ℤ → Bool
is_there e = not (int_eq e.1 (pos 0))

abbrev pub coefficient_at : ℕ × ℤ → WideCoefficient
coefficient_at e = record { cell = e.0; k = e.1 }

abbrev pub combination_of : Combination → Form
combination_of c = record { constant = c.constant; cells = nonzero c.cells.entries; plain = c.plain }

abbrev pub wide_coefficient : WideCoefficient → Coefficient
wide_coefficient c = record { cell = c.cell; k = c.k }

abbrev pub wide_cells : List WideCoefficient → List Coefficient
wide_cells cells = map wide_coefficient cells

abbrev pub wide_form : WideForm → Form
wide_form f = record { constant = f.constant; cells = wide_cells f.cells.items; plain = f.plain }

-- the sizes of all coefficients, each times a number that its cell has
abbrev pub weighted : (ℕ → ℕ) → List Coefficient → ℕ
weighted w [] = 0
weighted w (c ∷ later) = unsigned_abs c.k * w c.cell + weighted w later

abbrev pub mass : List Coefficient → ℕ
mass cells = weighted (λ cell. 1) cells

abbrev pub mass_of : Form → ℕ
mass_of f = unsigned_abs f.constant + mass f.cells

-- the size of the constant, and the weight of all cells
abbrev pub weight_in : Box → Form → ℕ
weight_in root f = unsigned_abs f.constant + cells_weight root f.cells

-- a coefficient as it is kept, with 64 bits
abbrev pub narrow : WideCoefficient → own.Coefficient
narrow c = record { cell = c.cell; k = c.k }

-- and the other way round
abbrev pub widen : own.Coefficient → WideCoefficient
widen c = record { cell = c.cell; k = c.k }
