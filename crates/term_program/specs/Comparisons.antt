-- The linear form of a comparison.
use Rattle.std.specs.Prelude.{◌≡◌, ℕ, ◌<◌, negsuc, Bool, true, false, ◌&&◌, List, length, Option, Some, None, if◌then◌else◌}
use Rattle.sopl_base.specs.declared.comparison.CmpOp.{CmpOp}
use Rattle.box_problem.specs.Box.{Box}
use Rattle.term_language.specs.Forms as forms
use Rattle.term_language.specs.Marks.{both, is_always}
use Rattle.term_language.specs.Rules.{Near, form, mark}
use Rattle.term_math.specs.Shown.{form_of}
use Rattle.term_nodes.specs.declared.nodes.Comparison.{Comparison}
use Rattle.term_program.specs.declared.shapes.Form.{Form}
use Rattle.term_nodes.specs.Things.{Thing, cond_at, term_at}
use Rattle.term_language.specs.Terms.{Term, Cond, Compare, Not, All, Any, Implies, AllDifferent, Cumulative}

-- a comparison, with the form of its left side minus its right one
pub record Difference : Type 0 where
  pub op : CmpOp
  pub form : forms.Form

-- both sides are Always defined over the root, and cells alone are in the form
abbrev pub is_linear_pair : Box → Term → Term → Bool
is_linear_pair root a b =
    (forms.plus_form (negsuc 0) (form root a) (form root b)).plain && is_always (both (mark Near root root a) (mark Near root root b))

-- the linear comparison that a condition is, if it is one
abbrev pub linear_in : Box → Cond → Option Difference
linear_in root (Compare op a b) =
    if is_linear_pair root a b then Some (record { op = op; form = forms.plus_form (negsuc 0) (form root a) (form root b) }) else None
linear_in root other = None

-- a comparison as it is kept
abbrev pub difference_of : Comparison → Difference
difference_of c = record { op = c.op; form = form_of c.form }

abbrev pub is_comparison : Cond → Bool
is_comparison (Compare op a b) = true
is_comparison other = false

-- what is kept of the condition with this number is right
pub record IsComparison (root : Box) (things : List Thing) (id : ℕ) (c : Comparison) : Type 0 where
  pub is : cond_at things id ≡ Compare c.op (term_at things c.left) (term_at things c.right)
  pub form : form_of c.form ≡ forms.plus_form (negsuc 0) (form root (term_at things c.left)) (form root (term_at things c.right))
  pub left : c.left < length things
  pub right : c.right < length things

-- which of the global conditions a condition is
abbrev pub global_shape : Cond → Form
global_shape (AllDifferent terms) = Form.AllDifferent
global_shape (Cumulative tasks capacity) = Form.Cumulative
global_shape other = Form.Other

-- the form of a condition
abbrev pub shape_in : Box → Cond → Form
shape_in root (AllDifferent terms) = Form.AllDifferent
shape_in root (Cumulative tasks capacity) = Form.Cumulative
shape_in root (Compare op a b) = if is_linear_pair root a b then Form.Linear else Form.Other
shape_in root (Not c) = Form.Other
shape_in root (All conds) = Form.Other
shape_in root (Any conds) = Form.Other
shape_in root (Implies a c) = Form.Other
