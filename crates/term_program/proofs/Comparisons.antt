-- Comparisons and their linear forms.
use Rattle.std.proofs.Common.{◌≡◌, ◌∙◌, refl, ap, sym, arith, ℕ, ◌<◌, negsuc, Bool, true, false, ◌&&◌, List, length, [], ◌∷◌, Option, Some, None, option_map, if◌then◌else◌, Vec, Global}
use Rattle.sopl_base.specs.declared.comparison.CmpOp.{CmpOp}
use Rattle.term_language.proofs.FormValues.{by_bool}
use Rattle.term_program.specs.declared.program.Program.{Program}
use Rattle.term_program.specs.declared.shapes.Form.{Form}
use Rattle.term_program.specs.declared.shapes.Form.TheVariants as shape
use Rattle.term_program.specs.Programs.{IsMade, root_in, things_in}
use Rattle.box_problem.specs.Box.{Box}
use Rattle.term_language.specs.Forms as forms
use Rattle.term_language.specs.Marks.{both, is_always}
use Rattle.term_language.specs.Rules.{Near, form, mark}
use Rattle.term_language.specs.Terms.{Term, Cond, Compare, Not, All, Any, Implies, AllDifferent, Cumulative}
use Rattle.term_nodes.specs.declared.items.Item.{Item}
use Rattle.term_nodes.specs.declared.nodes.Node.{Node}
use Rattle.term_nodes.specs.declared.nodes.Node.TheVariants as node
use Rattle.term_nodes.specs.declared.nodes.Comparison.{Comparison}
use Rattle.term_nodes.specs.declared.nodes.Task.{Task}
use Rattle.term_nodes.specs.Built.{IsAt, IsBuilt}
use Rattle.term_nodes.specs.Things.{Thing, nothing, cond_in, cond_at, term_at, thing_at, thing_of, things}
use Rattle.term_nodes.proofs.Steps.{below_at, right_at}
use Rattle.term_program.specs.Comparisons.{Difference, IsComparison, difference_of, global_shape, is_comparison, is_linear_pair, linear_in, shape_in}

-- a node is a comparison
abbrev pub is_compare : Node → Bool
is_compare (node.Compare c) = true
is_compare x = false

cond_is : (root : Box) (all : List Thing) (id : ℕ) (item : Item) (x : Node) → IsAt root all id item → item.node ≡ x → cond_at all id ≡ cond_in (thing_of all x)
cond_is root all id item x at is = ap cond_in at.thing ∙ ap (λ (n : Node). cond_in (thing_of all n)) is

pub compared_there : (root : Box) (all : List Thing) (id : ℕ) (item : Item) (c : Comparison) → IsAt root all id item → item.node ≡ node.Compare c → id < length all → IsComparison root all id c
compared_there root all id item c at is exists =
    let below = below_at root all id item (node.Compare c) at is in
    record {
      is = cond_is root all id item (node.Compare c) at is;
      form = right_at root all id item (node.Compare c) at is;
      left = omega (arith, below.0, exists);
      right = omega (arith, below.1, exists);
    }

other_cond : (all : List Thing) (x : Node) → is_compare x ≡ false → is_comparison (cond_in (thing_of all x)) ≡ false
other_cond all (node.Constant z) other = refl
other_cond all (node.Cell cell) other = refl
other_cond all (node.Sum parts) other = refl
other_cond all (node.Product a b) other = refl
other_cond all (node.Operation op a) other = refl
other_cond all (node.Extreme e first later) other = refl
other_cond all (node.Element table at) other = refl
other_cond all (node.Number c) other = refl
other_cond all (node.Compare c) other = cc
other_cond all (node.Not c) other = refl
other_cond all (node.All conds) other = refl
other_cond all (node.Any conds) other = refl
other_cond all (node.Implies a c) other = refl
other_cond all (node.AllDifferent terms) other = refl
other_cond all (node.Cumulative tasks capacity) other = refl
other_cond all (node.Table t) other = refl

pub not_compared : (root : Box) (all : List Thing) (id : ℕ) (item : Item) (x : Node) → IsAt root all id item → item.node ≡ x → is_compare x ≡ false → is_comparison (cond_at all id) ≡ false
not_compared root all id item x at is other = ap is_comparison (cond_is root all id item x at is) ∙ other_cond all x other

pub nothing_compared : (all : List Thing) (id : ℕ) → thing_at all id ≡ nothing → is_comparison (cond_at all id) ≡ false
nothing_compared all id none = ap (λ (t : Thing). is_comparison (cond_in t)) none

-- the linear comparison
module _ (root : Box) (all : List Thing) (id : ℕ) (c : Comparison) (there : IsComparison root all id c) where
  chosen : (b : Bool) → is_linear_pair root (term_at all c.left) (term_at all c.right) ≡ b → linear_in root (cond_at all id)
      ≡ (if b then Some (record { op = c.op; form = forms.plus_form (negsuc 0) (form root (term_at all c.left)) (form root (term_at all c.right)) }) else None)
  chosen b is =
      ap (linear_in root) there.is
      ∙ ap (λ (t : Bool). if t then Some (record { op = c.op; form = forms.plus_form (negsuc 0) (form root (term_at all c.left)) (form root (term_at all c.right)) }) else None) is

  pub linear_there : c.form.plain ≡ true → true ≡ is_always (both (mark Near root root (term_at all c.left)) (mark Near root root (term_at all c.right))) → linear_in root (cond_at all id)
      ≡ Some (difference_of c)
  linear_there is always =
      chosen true (ap (λ (f : forms.Form). f.plain && is_always (both (mark Near root root (term_at all c.left)) (mark Near root root (term_at all c.right)))) (sym there.form)
      ∙ ap (λ (p : Bool). p && is_always (both (mark Near root root (term_at all c.left)) (mark Near root root (term_at all c.right)))) is ∙ sym always)
      ∙ ap (λ (f : forms.Form). Some (record { op = c.op; form = f })) (sym there.form)

  pub not_plain : c.form.plain ≡ false → linear_in root (cond_at all id) ≡ None
  not_plain is =
      chosen false (ap (λ (f : forms.Form). f.plain && is_always (both (mark Near root root (term_at all c.left)) (mark Near root root (term_at all c.right)))) (sym there.form)
      ∙ ap (λ (p : Bool). p && is_always (both (mark Near root root (term_at all c.left)) (mark Near root root (term_at all c.right)))) is)

  pub not_defined : c.form.plain ≡ true → false ≡ is_always (both (mark Near root root (term_at all c.left)) (mark Near root root (term_at all c.right))) → linear_in root (cond_at all id) ≡ None
  not_defined is other =
      chosen false (ap (λ (f : forms.Form). f.plain && is_always (both (mark Near root root (term_at all c.left)) (mark Near root root (term_at all c.right)))) (sym there.form)
      ∙ ap (λ (p : Bool). p && is_always (both (mark Near root root (term_at all c.left)) (mark Near root root (term_at all c.right)))) is ∙ sym other)

pub no_comparison : (root : Box) (c : Cond) → is_comparison c ≡ false → linear_in root c ≡ None
no_comparison root (Compare op a b) other = cc
no_comparison root (Not c) other = refl
no_comparison root (All conds) other = refl
no_comparison root (Any conds) other = refl
no_comparison root (Implies a c) other = refl
no_comparison root (AllDifferent terms) other = refl
no_comparison root (Cumulative tasks capacity) other = refl

-- which of the global conditions a node is
abbrev pub is_global : Node → Bool
is_global (node.AllDifferent terms) = true
is_global (node.Cumulative tasks capacity) = true
is_global other = false

node_global : (all : List Thing) (x : Node) → is_global x ≡ false → shape.Other ≡ global_shape (cond_in (thing_of all x))
node_global all (node.Constant z) other = refl
node_global all (node.Cell cell) other = refl
node_global all (node.Sum parts) other = refl
node_global all (node.Product a b) other = refl
node_global all (node.Operation op a) other = refl
node_global all (node.Extreme e first later) other = refl
node_global all (node.Element table at) other = refl
node_global all (node.Number c) other = refl
node_global all (node.Compare c) other = refl
node_global all (node.Not c) other = refl
node_global all (node.All conds) other = refl
node_global all (node.Any conds) other = refl
node_global all (node.Implies a c) other = refl
node_global all (node.AllDifferent terms) other = cc
node_global all (node.Cumulative tasks capacity) other = cc
node_global all (node.Table t) other = refl

pub not_global : (root : Box) (all : List Thing) (id : ℕ) (item : Item) (x : Node) → IsAt root all id item → item.node ≡ x → is_global x ≡ false → shape.Other ≡ global_shape (cond_at all id)
not_global root all id item x at is other = node_global all x other ∙ sym (ap global_shape (cond_is root all id item x at is))

pub different_there : (root : Box) (all : List Thing) (id : ℕ) (item : Item) (terms : Vec ℕ Global) → IsAt root all id item → item.node ≡ node.AllDifferent terms
    → shape.AllDifferent ≡ global_shape (cond_at all id)
different_there root all id item terms at is = sym (ap global_shape (cond_is root all id item (node.AllDifferent terms) at is))

pub cumulative_there : (root : Box) (all : List Thing) (id : ℕ) (item : Item) (tasks : Vec Task Global) (capacity : ℕ) → IsAt root all id item → item.node ≡ node.Cumulative tasks capacity
    → shape.Cumulative ≡ global_shape (cond_at all id)
cumulative_there root all id item tasks capacity at is = sym (ap global_shape (cond_is root all id item (node.Cumulative tasks capacity) at is))

pub nothing_global : (all : List Thing) (id : ℕ) → thing_at all id ≡ nothing → shape.Other ≡ global_shape (cond_at all id)
nothing_global all id none = sym (ap (λ (t : Thing). global_shape (cond_in t)) none)

pair : Box → CmpOp → Term → Term → Difference
pair root op a b = record { op = op; form = forms.plus_form (negsuc 0) (form root a) (form root b) }

abbrev if_linear : Bool → Difference → Option Difference
if_linear t d = if t then Some d else None

is_some_not : (d : Difference) → Some d ≡ None → ⊥
is_some_not d is = cc

pair_shape : (root : Box) (op : CmpOp) (a b : Term) → linear_in root (Compare op a b) ≡ None → shape.Other ≡ shape_in root (Compare op a b)
unfolding pair
pair_shape root op a b none =
    by_bool (λ t. if_linear t (pair root op a b) ≡ None → shape.Other ≡ (if t then shape.Linear else shape.Other)) (is_linear_pair root a b)
    (λ met is. absurd (is_some_not (pair root op a b) is)) (λ unmet is. refl) none

none_shape : (root : Box) (c : Cond) → linear_in root c ≡ None → global_shape c ≡ shape_in root c
none_shape root (Compare op a b) none = pair_shape root op a b none
none_shape root (Not c) none = refl
none_shape root (All conds) none = refl
none_shape root (Any conds) none = refl
none_shape root (Implies a c) none = refl
none_shape root (AllDifferent terms) none = refl
none_shape root (Cumulative tasks capacity) none = refl

pub linear_shape : (root : Box) (c : Cond) (d : Difference) → linear_in root c ≡ Some d → shape.Linear ≡ shape_in root c
unfolding pair
linear_shape root (Compare op a b) d is =
    by_bool (λ t. if_linear t (pair root op a b) ≡ Some d → shape.Linear ≡ (if t then shape.Linear else shape.Other)) (is_linear_pair root a b)
    (λ met some. refl) (λ unmet none. cc) is
linear_shape root (Not c) d is = cc
linear_shape root (All conds) d is = cc
linear_shape root (Any conds) d is = cc
linear_shape root (Implies a c) d is = cc
linear_shape root (AllDifferent terms) d is = cc
linear_shape root (Cumulative tasks capacity) d is = cc

pub other_shape : (root : Box) (c : Cond) (s : Form) → s ≡ global_shape c → linear_in root c ≡ None → s ≡ shape_in root c
other_shape root c s is none = is ∙ none_shape root c none

-- a condition of the form of linear comparisons is one
no_shape : (root : Box) (c : Cond) → shape_in root c ≡ shape.Linear → ¬ linear_in root c ≡ None
unfolding pair
no_shape root (Compare op a b) linear none =
    by_bool (λ t. (if t then shape.Linear else shape.Other) ≡ shape.Linear → ¬ if_linear t (pair root op a b) ≡ None) (is_linear_pair root a b)
    (λ met is. is_some_not (pair root op a b)) (λ unmet is. absurd (not_other is)) linear none
  where
    not_other : ¬ shape.Other ≡ shape.Linear
    not_other is = cc
no_shape root (Not c) linear none = cc
no_shape root (All conds) linear none = cc
no_shape root (Any conds) linear none = cc
no_shape root (Implies a c) linear none = cc
no_shape root (AllDifferent terms) linear none = cc
no_shape root (Cumulative tasks capacity) linear none = cc

pub no_linear : {A : Type 0} (root : Box) (c : Cond) (f : Difference → A) (x : A) → shape_in root c ≡ shape.Linear → linear_in root c ≡ None → option_map f (linear_in root c) ≡ Some x
no_linear root c f x linear none = absurd (no_shape root c linear none)
