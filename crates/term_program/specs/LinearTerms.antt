-- Terms that are a constant and a multiple of one cell.
use Rattle.std.specs.Prelude.{◌≡◌, Bool, true, false, ◌&&◌, List, [], ◌∷◌}
use Rattle.box_problem.specs.Box.{Box}
use Rattle.term_language.specs.Forms.{Coefficient, Form}
use Rattle.term_language.specs.Marks.{is_always}
use Rattle.term_language.specs.Rules.{Wide, form, mark}
use Rattle.term_language.specs.Terms.{Term}
use Rattle.term_language.specs.declared.answers.Defined.TheVariants.{Always}
use Rattle.term_program.specs.declared.linear_terms.OneCell.{OneCell}

-- just one cell
abbrev pub is_one : List Coefficient → Bool
is_one [] = false
is_one (c ∷ []) = true
is_one (c ∷ d ∷ later) = false

-- a term has one cell in its form and nothing else but a constant, and is Always defined by the wide reading
abbrev pub has_one_cell : Box → Term → Bool
has_one_cell root t = (form root t).plain && is_always (mark Wide root root t) && is_one (form root t).cells

-- the form of a constant and a multiple of a cell
abbrev pub form_of_one : OneCell → Form
form_of_one x =
    record { constant = x.constant; cells = record { cell = x.cell; k = x.k } ∷ []; plain = true }

-- a term has just this form, and is Always defined
pub record IsOneCell (root : Box) (t : Term) (x : OneCell) : Type 0 where
  pub form : form root t ≡ form_of_one x
  pub mark : mark Wide root root t ≡ Always
