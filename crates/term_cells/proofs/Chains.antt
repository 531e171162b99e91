-- The cells of a chain of left operands: what a term mentions beside its left operand goes into a set before the cells of the left operand.
use Rattle.std.proofs.Common.{◌≡◌, ℕ, Option, Some, None, IfSome, IfNone, List, [], refl, ap, sym, ◌∙◌}
use Rattle.std.proofs.lemmas.List.Sums.{fold-append}
use Rattle.std.specs.BTreeSet.{insert_key}
use Rattle.std.specs.Ordering.{nat_cmp}
use Rattle.box_problem.specs.Box.{Box}
use Rattle.term_language.specs.Terms as rule
use Rattle.term_nodes.specs.declared.nodes.Node.{Node}
use Rattle.term_nodes.specs.declared.nodes.Node.TheVariants as node
use Rattle.term_nodes.specs.declared.items.Item.{Item}
use Rattle.term_nodes.specs.Built.{IsAt}
use Rattle.term_nodes.specs.Operands.{left_in}
use Rattle.term_nodes.specs.Things.{Thing, nothing, term_in, thing_at, term_at, thing_of}
use Rattle.term_language.specs.Mentions.{mentions}
use Rattle.term_cells.specs.Cells.{left_mentions, other_mentions, with_cells}
use Rattle.term_cells.proofs.Orders.{either_order}

-- all that a term mentions is what its left operand mentions, and what else it mentions
others_first : (root : Box) (t : rule.Term) (set : List ℕ) → with_cells (with_cells set (other_mentions root t)) (left_mentions root t) ≡ with_cells set (mentions root t)
others_first root (rule.Constant z) set = refl
others_first root (rule.Cell cell) set = refl
others_first root (rule.Sum parts) set = refl
others_first root (rule.Product a b) set =
    either_order set (mentions root a) (mentions root b) ∙ sym (fold-append (insert_key nat_cmp) set (mentions root a) (mentions root b))
others_first root (rule.Made op a) set = refl
others_first root (rule.Selected which a later) set = refl
others_first root (rule.Element table at) set = refl
others_first root (rule.Number c) set = refl

-- the operand of a node, if it has one
abbrev told : Box → List Thing → Option ℕ → List ℕ
told root all None = []
told root all (Some a) = mentions root (term_at all a)

left_of_node : (root : Box) (all : List Thing) (n : Node) → left_mentions root (term_in (thing_of all n)) ≡ told root all (left_in n)
left_of_node root all (node.Constant z) = refl
left_of_node root all (node.Cell cell) = refl
left_of_node root all (node.Sum parts) = refl
left_of_node root all (node.Product a b) = refl
left_of_node root all (node.Operation op a) = refl
left_of_node root all (node.Extreme e first later) = refl
left_of_node root all (node.Element table at) = refl
left_of_node root all (node.Number c) = refl
left_of_node root all (node.Compare c) = refl
left_of_node root all (node.Not c) = refl
left_of_node root all (node.All conds) = refl
left_of_node root all (node.Any conds) = refl
left_of_node root all (node.Implies a c) = refl
left_of_node root all (node.AllDifferent terms) = refl
left_of_node root all (node.Cumulative tasks capacity) = refl
left_of_node root all (node.Table t) = refl

left_at : (root : Box) (all : List Thing) (id : ℕ) (item : Item) → IsAt root all id item → left_mentions root (term_at all id) ≡ told root all (left_in item.node)
left_at root all id item at = ap (λ (t : Thing). left_mentions root (term_in t)) at.thing ∙ left_of_node root all item.node

pub if_left : (root : Box) (all : List Thing) (id : ℕ) (item : Item) (o : Option ℕ) → IsAt root all id item → o ≡ left_in item.node
    → IfSome o (λ a. left_mentions root (term_at all id) ≡ mentions root (term_at all a))
if_left root all id item None at is = tt
if_left root all id item (Some a) at is = left_at root all id item at ∙ ap (told root all) (sym is)

pub if_none : (root : Box) (all : List Thing) (id : ℕ) (item : Item) (o : Option ℕ) → IsAt root all id item → o ≡ left_in item.node → IfNone o (left_mentions root (term_at all id) ≡ [])
if_none root all id item None at is = left_at root all id item at ∙ ap (told root all) (sym is)
if_none root all id item (Some a) at is = tt

pub left_nothing : (root : Box) (all : List Thing) (id : ℕ) → thing_at all id ≡ nothing → left_mentions root (term_at all id) ≡ []
left_nothing root all id none = ap (λ (t : Thing). left_mentions root (term_in t)) none

-- the steps down a chain
pub first_others : (root : Box) (t : rule.Term) (before after : List ℕ) → after ≡ with_cells before (other_mentions root t) → with_cells after (left_mentions root t)
    ≡ with_cells before (mentions root t)
first_others root t before after put = ap (λ (s : List ℕ). with_cells s (left_mentions root t)) put ∙ others_first root t before

pub next_others : (root : Box) (s t : rule.Term) (before after all : List ℕ) → left_mentions root s ≡ mentions root t → after ≡ with_cells before (other_mentions root t)
    → with_cells before (left_mentions root s) ≡ all → with_cells after (left_mentions root t) ≡ all
next_others root s t before after all is put so_far = first_others root t before after put ∙ ap (with_cells before) (sym is) ∙ so_far

pub no_left : (root : Box) (t : rule.Term) (set all : List ℕ) → left_mentions root t ≡ [] → with_cells set (left_mentions root t) ≡ all → set ≡ all
no_left root t set all none so_far = ap (with_cells set) (sym none) ∙ so_far
