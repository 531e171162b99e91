-- What is known of each node, and that it is right.
use Rattle.std.specs.Prelude.{◌≡◌, ℕ, ◌<◌, ◌≤◌, pos, negsuc, List, [], ◌∷◌, length, get_or}
use Rattle.sopl_base.specs.declared.limits.TheConstants as largest
use Rattle.box_problem.specs.Box.{Box}
use Rattle.term_language.specs.Ends as ends
use Rattle.term_language.specs.Forms as forms
use Rattle.term_language.specs.Terms.{Term}
use Rattle.term_language.specs.Rules.{Near, Wide, form, mark, atoms, truth}
use Rattle.term_language.specs.Sizes.{atoms_weight, size}
use Rattle.term_language.specs.Laws.{IsProper, IsProperCond, IsTable}
use Rattle.term_language.specs.declared.answers.Defined.{Defined}
use Rattle.term_language.specs.declared.answers.Defined.TheVariants.{Always}
use Rattle.term_language.specs.declared.answers.Truth.{Truth}
use Rattle.term_language.specs.declared.answers.Truth.TheVariants.{True}
use Rattle.term_language.specs.Marks.{truth_ends}
use Rattle.term_math.specs.Shown.{ends_of, form_of}
use Rattle.term_math.specs.Made.{IsPossible}
use Rattle.term_nodes.specs.declared.nodes.Node.{Node}
use Rattle.term_nodes.specs.declared.nodes.Node.TheVariants as node
use Rattle.term_nodes.specs.declared.nodes.Signed.{Signed}
use Rattle.term_nodes.specs.declared.nodes.Task.{Task}
use Rattle.term_nodes.specs.declared.items.Item.{Item}
use Rattle.term_nodes.specs.declared.items.Facts as own
use Rattle.term_nodes.specs.Things.{Thing, term_in, cond_in, table_in, term_at, thing_at, thing_of, things}

pub record Facts : Type 0 where
  pub form : forms.Form
  pub mark : Defined
  pub wide_mark : Defined
  pub wide : ends.Ends
  pub weight : ℕ
  pub truth : Truth

abbrev pub facts_of : Box → Thing → Facts
facts_of root thing = record {
  form = form root (term_in thing);
  mark = mark Near root root (term_in thing);
  wide_mark = mark Wide root root (term_in thing);
  wide = atoms Wide root root (term_in thing);
  weight = atoms_weight root (term_in thing);
  truth = truth Wide root root (cond_in thing);
}

-- what is known of a condition with this truth
abbrev pub of_truth : Truth → Facts
of_truth t = record {
  form = forms.number_form (pos 0);
  mark = Always;
  wide_mark = Always;
  wide = ends.exactly (pos 0);
  weight = 0;
  truth = t;
}

-- and of a condition as a number
abbrev pub of_atom : Truth → Facts
of_atom t = record {
  form = forms.atom_form;
  mark = Always;
  wide_mark = Always;
  wide = truth_ends t;
  weight = 1;
  truth = True;
}

-- what is kept of it
abbrev pub kept : own.Facts → Facts
kept f = record {
  form = form_of f.form;
  mark = f.mark;
  wide_mark = f.wide_mark;
  wide = ends_of f.wide;
  weight = f.weight;
  truth = f.truth;
}

-- a term with a size of at most 2^40
pub record IsSoundTerm (root : Box) (t : Term) : Type 0 where
  pub proper : IsProper t
  pub small : size root t ≤ largest.TERM_SIZE

pub record IsSound (root : Box) (thing : Thing) : Type 0 where
  pub term : IsSoundTerm root (term_in thing)
  pub cond : IsProperCond (cond_in thing)
  pub table : IsTable (table_in thing)

-- operands stand before a node
abbrev pub PartsBelow : ℕ → List Signed → Type 0
PartsBelow id [] = Unit {0}
PartsBelow id (p ∷ parts) = (p.term < id) × PartsBelow id parts

abbrev pub AllBelow : ℕ → List ℕ → Type 0
AllBelow id [] = Unit {0}
AllBelow id (x ∷ xs) = (x < id) × AllBelow id xs

abbrev pub TasksBelow : ℕ → List Task → Type 0
TasksBelow id [] = Unit {0}
TasksBelow id (t ∷ tasks) = ((t.start < id) × ((t.duration < id) × (t.demand < id))) × TasksBelow id tasks

abbrev pub IsBelow : ℕ → Node → Type 0
IsBelow id (node.Constant z) = Unit {0}
IsBelow id (node.Cell cell) = Unit {0}
IsBelow id (node.Sum parts) = PartsBelow id parts.items
IsBelow id (node.Product a b) = (a < id) × (b < id)
IsBelow id (node.Operation op a) = a < id
IsBelow id (node.Extreme e first later) = (first < id) × AllBelow id later.items
IsBelow id (node.Element table at) = (table < id) × AllBelow id at.items
IsBelow id (node.Number c) = c < id
IsBelow id (node.Compare c) = (c.left < id) × (c.right < id)
IsBelow id (node.Not c) = c < id
IsBelow id (node.All conds) = AllBelow id conds.items
IsBelow id (node.Any conds) = AllBelow id conds.items
IsBelow id (node.Implies a c) = (a < id) × (c < id)
IsBelow id (node.AllDifferent terms) = AllBelow id terms.items
IsBelow id (node.Cumulative tasks capacity) = TasksBelow id tasks.items × (capacity < id)
IsBelow id (node.Table t) = Unit {0}

-- a divisor can be computed with, and the form of a comparison is that of the difference
abbrev pub IsRight : Box → List Thing → Node → Type 0
IsRight root all (node.Constant z) = Unit {0}
IsRight root all (node.Cell cell) = Unit {0}
IsRight root all (node.Sum parts) = Unit {0}
IsRight root all (node.Product a b) = Unit {0}
IsRight root all (node.Operation op a) = IsPossible op
IsRight root all (node.Extreme e first later) = Unit {0}
IsRight root all (node.Element table at) = Unit {0}
IsRight root all (node.Number c) = Unit {0}
IsRight root all (node.Compare c) =
    form_of c.form ≡ forms.plus_form (negsuc 0) (form root (term_at all c.left)) (form root (term_at all c.right))
IsRight root all (node.Not c) = Unit {0}
IsRight root all (node.All conds) = Unit {0}
IsRight root all (node.Any conds) = Unit {0}
IsRight root all (node.Implies a c) = Unit {0}
IsRight root all (node.AllDifferent terms) = Unit {0}
IsRight root all (node.Cumulative tasks capacity) = Unit {0}
IsRight root all (node.Table t) = Unit {0}

-- what stands at a number
pub record IsAt (root : Box) (all : List Thing) (id : ℕ) (item : Item) : Type 0 where
  pub thing : thing_at all id ≡ thing_of all item.node
  pub below : IsBelow id item.node
  pub kept : kept item.facts ≡ facts_of root (thing_of all item.node)
  pub sound : IsSound root (thing_of all item.node)
  pub right : IsRight root all item.node

-- all nodes are so
pub record IsBuilt (root : Box) (items : List Item) : Type 0 where
  pub each : (id : ℕ) (item : Item) → id < length items → item ≡ get_or items id item → IsAt root (things items) id item

-- a node that may be added: its operands are there, and what is kept of it is right
pub record IsNew (root : Box) (items : List Item) (item : Item) : Type 0 where
  pub below : IsBelow (length items) item.node
  pub kept : kept item.facts ≡ facts_of root (thing_of (things items) item.node)
  pub sound : IsSound root (thing_of (things items) item.node)
  pub right : IsRight root (things items) item.node
