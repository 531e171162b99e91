-- Linear forms: a constant, and a multiple of each cell; what is neither may stand beside them.
use Rattle.std.specs.Prelude.{ℕ, nat_lt, nat_eq, ℤ, pos, negsuc, ◌+ℤ◌, ◌*ℤ◌, Bool, true, false, ◌&&◌, ◌||◌, List, [], ◌∷◌, if◌then◌else◌}
use Rattle.std.specs.Ordering.{int_eq}
use Rattle.box_problem.specs.Box.{Box}
use Rattle.term_language.specs.Ends.{Ends, exactly, plus, scaled, cell_ends}

-- a multiple of a cell
pub record Coefficient : Type 0 where
  pub cell : ℕ
  pub k : ℤ

-- the constant, the cells in ascending order, none of them 0 times; it is plain where nothing else is in it
pub record Form : Type 0 where
  pub constant : ℤ
  pub cells : List Coefficient
  pub plain : Bool

-- a number, a cell, and what is neither
abbrev pub number_form : ℤ → Form
number_form z = record { constant = z; cells = []; plain = true }

abbrev pub cell_form : ℕ → Form
cell_form cell = record { constant = pos 0; cells = record { cell = cell; k = pos 1 } ∷ []; plain = true }

abbrev pub atom_form : Form
atom_form = record { constant = pos 0; cells = []; plain = false }

-- no cell and nothing else in it
abbrev pub is_empty : List Coefficient → Bool
is_empty [] = true
is_empty (c ∷ later) = false

abbrev pub is_constant : Form → Bool
is_constant f = f.plain && is_empty f.cells

-- a coefficient before later ones, unless it is 0
abbrev pub unless_zero : ℕ → ℤ → List Coefficient → List Coefficient
unless_zero cell k later = if int_eq k (pos 0) then later else record { cell = cell; k = k } ∷ later

-- a multiple of a cell more
abbrev pub put : ℕ → ℤ → List Coefficient → List Coefficient
put cell k [] = unless_zero cell k []
put cell k (c ∷ later) =
    if nat_lt c.cell cell then c ∷ put cell k later
    else if nat_eq c.cell cell then unless_zero cell (c.k +ℤ k) later
    else unless_zero cell k (c ∷ later)

-- coefficients, and multiples of those of others
abbrev pub combined : ℤ → List Coefficient → List Coefficient → List Coefficient
combined factor cells [] = cells
combined factor cells (c ∷ later) = put c.cell (factor *ℤ c.k) (combined factor cells later)

-- a form, and a multiple of another
abbrev pub plus_form : ℤ → Form → Form → Form
plus_form factor f g = record {
  constant = f.constant +ℤ factor *ℤ g.constant;
  cells = combined factor f.cells g.cells;
  plain = f.plain && (g.plain || int_eq factor (pos 0));
}

abbrev pub times_form : ℤ → Form → Form
times_form factor f = plus_form factor (number_form (pos 0)) f

-- a product is a form where one of its operands is a number
abbrev pub product_form : Form → Form → Form
product_form f g =
    if is_constant f then times_form f.constant g
    else if is_constant g then times_form g.constant f
    else atom_form

-- what is subtracted counts -1 times
abbrev pub sign : Bool → ℤ
sign true = negsuc 0
sign false = pos 1

-- the interval of the cells of a form over a box
abbrev pub cells_ends : Box → List Coefficient → Ends
cells_ends b [] = exactly (pos 0)
cells_ends b (c ∷ later) = plus (scaled c.k (cell_ends b c.cell)) (cells_ends b later)

-- the interval of a form, where that of all else in it is given
abbrev pub whole : Box → Form → Ends → Ends
whole b f atoms = plus (exactly f.constant) (plus (cells_ends b f.cells) atoms)
