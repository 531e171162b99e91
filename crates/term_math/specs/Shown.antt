-- What intervals, forms and boxes stand for as they are kept, and which of them can be computed with.
use Rattle.std.specs.Prelude.{◌≡◌, true, false, ℕ, ◌<◌, ℤ, ◌≤ℤ◌, negsuc, ◌*ℤ◌, List, map, length, drop, get_or, Option, Some, None}
use Rattle.std.specs.Int.{w64}
use Rattle.std.specs.Int.RustNames.{FitsSigned}
use Rattle.box_problem.specs.Box.{Box, low, high, with_low, with_high}
use Rattle.term_language.specs.Ends as rule
use Rattle.term_language.specs.Forms as forms
use Rattle.term_math.specs.declared.ends.Ends.{Ends}
use Rattle.term_math.specs.declared.forms.Coefficient.{Coefficient}
use Rattle.term_math.specs.declared.forms.Form.{Form}
use Rattle.term_math.specs.declared.views.Part.{Part}
use Rattle.term_math.specs.declared.views.BoxView.{BoxView}

abbrev pub ends_of : Ends → rule.Ends
ends_of a = rule.ends a.low a.high

-- both ends have room in 64 bits
pub record IsFit (a : rule.Ends) : Type 0 where
  pub low : FitsSigned w64 a.low
  pub high : FitsSigned w64 a.high

-- a multiple of both ends, in their order
abbrev pub ends_at : ℤ → rule.Ends → rule.Ends
ends_at k a = rule.ends (k *ℤ a.low) (k *ℤ a.high)

abbrev pub coefficient_of : Coefficient → forms.Coefficient
coefficient_of c = record { cell = c.cell; k = c.k }

abbrev pub cells_of : List Coefficient → List forms.Coefficient
cells_of cells = map coefficient_of cells

abbrev pub form_of : Form → forms.Form
form_of f = record { constant = f.constant; cells = cells_of f.cells.items; plain = f.plain }

abbrev pub with_part : Box → Option Part → Box
with_part b None = b
with_part b (Some part) = with_high (with_low b part.cell part.ends.low) part.cell part.ends.high

-- the interval for one cell is not empty, and lies within that of the root
pub record IsPart (root : Box) (part : Part) : Type 0 where
  pub from_low : low root part.cell ≤ℤ part.ends.low
  pub ordered : part.ends.low ≤ℤ part.ends.high
  pub to_high : part.ends.high ≤ℤ high root part.cell

-- the box, and the box with another interval for one cell
abbrev pub box_under : BoxView → Box
box_under view = record { lows = view.lows.now; highs = view.highs.now }

abbrev pub box_in : BoxView → Box
box_in view = with_part (box_under view) view.part

-- a multiple of each cell, and the sums from each cell on, have room
pub record CellsFit (b : Box) (cells : List Coefficient) : Type 0 where
  pub each : (i : ℕ) (c : Coefficient) → i < length cells → c ≡ get_or cells i c → IsFit (ends_at c.k (rule.cell_ends b c.cell))
  pub sums : (i : ℕ) → IsFit (forms.cells_ends b (cells_of (drop i cells)))

-- and so has the whole form
pub record WholeFits (b : Box) (f : Form) (atoms : rule.Ends) : Type 0 where
  pub cells : CellsFit b f.cells.items
  pub others : IsFit (rule.plus (forms.cells_ends b (cells_of f.cells.items)) atoms)
  pub whole : IsFit (forms.whole b (form_of f) atoms)

-- so have all intervals of a product
pub record ProductFits (b : Box) (f g : Form) (f_atoms g_atoms : rule.Ends) : Type 0 where
  pub left : forms.is_constant (form_of f) ≡ true → IsFit (ends_at f.constant g_atoms)
  pub right : forms.is_constant (form_of f) ≡ false → forms.is_constant (form_of g) ≡ true → IsFit (ends_at g.constant f_atoms)
  pub left_whole : forms.is_constant (form_of f) ≡ false → forms.is_constant (form_of g) ≡ false → WholeFits b f f_atoms
  pub right_whole : forms.is_constant (form_of f) ≡ false → forms.is_constant (form_of g) ≡ false → WholeFits b g g_atoms
  pub low : forms.is_constant (form_of f) ≡ false → forms.is_constant (form_of g) ≡ false → IsFit (ends_at (forms.whole b (form_of f) f_atoms).low (forms.whole b (form_of g) g_atoms))
  pub high : forms.is_constant (form_of f) ≡ false → forms.is_constant (form_of g) ≡ false → IsFit (ends_at (forms.whole b (form_of f) f_atoms).high (forms.whole b (form_of g) g_atoms))

-- and of a difference
pub record DifferenceFits (b : Box) (f : Form) (left right : rule.Ends) : Type 0 where
  pub subtracted : IsFit (ends_at (negsuc 0) right)
  pub atoms : IsFit (rule.plus left (rule.scaled (negsuc 0) right))
  pub whole : WholeFits b f (rule.plus left (rule.scaled (negsuc 0) right))
