-- The size of a number expression: a bound on all that is computed for it over each box inside the root.
use Rattle.std.specs.Prelude.{ℕ, ◌+◌, ◌*◌, max, unsigned_abs, List, [], ◌∷◌, if◌then◌else◌}
use Rattle.box_problem.specs.Box.{Box}
use Rattle.term_language.specs.Terms.{Term, Sum, Product, Parts, no_part, part}
use Rattle.term_language.specs.Ends.{Ends, cell_ends}
use Rattle.term_language.specs.Forms.{Coefficient, Form, is_constant}
use Rattle.term_language.specs.Rules.{Wide, form, atoms}

-- the greatest of 1 and the sizes of both ends
abbrev pub weight_of : Ends → ℕ
weight_of a = max 1 (max (unsigned_abs a.low) (unsigned_abs a.high))

-- of each cell the size of its coefficient, times the weight of its interval over the root
abbrev pub cells_weight : Box → List Coefficient → ℕ
cells_weight root [] = 0
cells_weight root (c ∷ later) = unsigned_abs c.k * weight_of (cell_ends root c.cell) + cells_weight root later

-- the non-linear part: nothing in a plain form, else one atom with its wide interval over the root
abbrev pub alone_weight : Form → Ends → ℕ
alone_weight f wide = if f.plain then 0 else weight_of wide

-- in a product with a number, that many times the other operand's
abbrev pub product_weight : Form → Form → ℕ → ℕ → Ends → ℕ
product_weight f g weight_f weight_g wide =
    if is_constant f then unsigned_abs f.constant * weight_g
    else if is_constant g then unsigned_abs g.constant * weight_f
    else weight_of wide

-- of each atom that is not linear, likewise, by its wide interval over the root
abbrev mutual
  pub atoms_weight : Box → Term → ℕ
  atoms_weight root (Sum parts) = sum_weight root parts
  atoms_weight root (Product a b) =
      product_weight (form root a) (form root b) (atoms_weight root a) (atoms_weight root b) (atoms Wide root root (Product a b))
  atoms_weight root t = alone_weight (form root t) (atoms Wide root root t)

  pub sum_weight : Box → Parts → ℕ
  sum_weight root no_part = 0
  sum_weight root (part subtracted t later) = atoms_weight root t + sum_weight root later

-- the size of the constant, and the weights of all else
abbrev pub size : Box → Term → ℕ
size root t = unsigned_abs (form root t).constant + cells_weight root (form root t).cells + atoms_weight root t
