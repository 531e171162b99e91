-- Operands of products with numbers, and terms that are no such product.
use Rattle.std.proofs.Common.{◌≡◌, ℕ, ◌*◌, ◌<◌, ◌^◌, ℤ, ◌*ℤ◌, unsigned_abs, Bool, true, false, List, Option, Some, None, IfNone, ap, subst, sym, ◌∙◌}
use Rattle.box_problem.specs.Box.{Box}
use Rattle.term_language.specs.Forms.{is_constant, atom_form}
use Rattle.term_language.specs.Rules.{form}
use Rattle.term_language.specs.Sizes.{atoms_weight}
use Rattle.term_language.specs.Terms as term
use Rattle.term_nodes.specs.declared.nodes.Node.{Node}
use Rattle.term_nodes.specs.declared.nodes.Node.TheVariants as node
use Rattle.term_nodes.specs.declared.items.Item.{Item}
use Rattle.term_nodes.specs.Built.{IsAt}
use Rattle.term_nodes.specs.Things.{Thing, nothing, term_in, term_at, thing_at, thing_of}
use Rattle.term_goals.specs.declared.sums.Atom.{Atom}
use Rattle.term_goals.specs.Goals.{IsBare, IsOperand}
use Rattle.term_goals.proofs.Growing.{term_is, other_at, plain_form, left_room, right_room, left_is, right_is}

-- nodes that are no products
abbrev pub is_product : Node → Bool
is_product (node.Product a c) = true
is_product other = false

bare_of : (root : Box) (all : List Thing) (x : Node) → is_product x ≡ false → IsBare root (term_in (thing_of all x))
bare_of root all (node.Constant z) none = tt
bare_of root all (node.Cell cell) none = tt
bare_of root all (node.Sum parts) none = tt
bare_of root all (node.Product a c) none = absurd (cc)
bare_of root all (node.Operation op a) none = tt
bare_of root all (node.Extreme e first later) none = tt
bare_of root all (node.Element table at) none = tt
bare_of root all (node.Number c) none = tt
bare_of root all (node.Compare c) none = tt
bare_of root all (node.Not c) none = tt
bare_of root all (node.All conds) none = tt
bare_of root all (node.Any conds) none = tt
bare_of root all (node.Implies a c) none = tt
bare_of root all (node.AllDifferent terms) none = tt
bare_of root all (node.Cumulative tasks capacity) none = tt
bare_of root all (node.Table t) none = tt

pub bare_at : (root : Box) (all : List Thing) (id : ℕ) (item : Item) (x : Node) → IsAt root all id item → item.node ≡ x → is_product x ≡ false → IsBare root (term_at all id)
bare_at root all id item x at is none = subst (IsBare root) (sym (term_is root all id item x at is)) (bare_of root all x none)

pub bare_nothing : (root : Box) (all : List Thing) (id : ℕ) → thing_at all id ≡ nothing → IsBare root (term_at all id)
bare_nothing root all id none = subst (λ (t : Thing). IsBare root (term_in t)) (sym none) tt

-- terms of cells alone, and terms that have no cell of their own
of_plain : (root : Box) (t : term.Term) → (form root t).plain ≡ true → IsBare root t
of_plain root (term.Constant z) plain = tt
of_plain root (term.Cell cell) plain = tt
of_plain root (term.Sum parts) plain = tt
of_plain root (term.Product s u) plain = λ other. absurd (cc)
of_plain root (term.Made op s) plain = tt
of_plain root (term.Selected which s later) plain = tt
of_plain root (term.Element table at) plain = tt
of_plain root (term.Number c) plain = tt

pub bare_plain : (root : Box) (all : List Thing) (id : ℕ) (item : Item) → IsAt root all id item → item.facts.form.plain ≡ true → IsBare root (term_at all id)
bare_plain root all id item at plain = of_plain root (term_at all id) (sym (plain_form root all id item at) ∙ plain)

of_leaf : (root : Box) (t : term.Term) → form root t ≡ atom_form → IsBare root t
of_leaf root (term.Constant z) leaf = tt
of_leaf root (term.Cell cell) leaf = tt
of_leaf root (term.Sum parts) leaf = tt
of_leaf root (term.Product s u) leaf = λ other. leaf
of_leaf root (term.Made op s) leaf = tt
of_leaf root (term.Selected which s later) leaf = tt
of_leaf root (term.Element table at) leaf = tt
of_leaf root (term.Number c) leaf = tt

pub bare_product : (root : Box) (t : term.Term) (next : Option Atom) → IfNone next (form root t ≡ atom_form) → IfNone next (IsBare root t)
bare_product root t None leaf = of_leaf root t leaf
bare_product root t (Some next) leaf = tt

pub bare_leaf : (root : Box) (all : List Thing) (id : ℕ) (item : Item) (a c : ℕ) → IsAt root all id item → item.node ≡ node.Product a c → item.facts.form.plain ≡ false
    → IsBare root (term_at all id) → form root (term_at all id) ≡ atom_form
bare_leaf root all id item a c at is other bare =
    let here = term_is root all id item (node.Product a c) at is in
    let leaf = subst (IsBare root) here bare (ap (λ (t : term.Term). (form root t).plain) (sym here) ∙ other_at root all id item at other) in
    ap (form root) here ∙ leaf

-- the other operand of a product with a number
pub left_operand : (root : Box) (all : List Thing) (before next : Atom) (a c : ℕ) (z : ℤ) → c < before.term → term_at all before.term ≡ term.Product (term_at all a) (term_at all c)
    → is_constant (form root (term_at all a)) ≡ true → (form root (term_at all before.term)).plain ≡ false
    → unsigned_abs before.k * atoms_weight root (term_at all before.term) < 2 ^ 127 → z ≡ (form root (term_at all a)).constant → next ≡ record { k = before.k *ℤ z; term = c }
    → IsOperand root all before next
left_operand root all before next a c z below is left other room z_is next_is =
    let d = (form root (term_at all a)).constant in
    let same : next ≡ record { k = before.k *ℤ d; term = c } = next_is ∙ ap (λ (y : ℤ). record { k = before.k *ℤ y; term = c }) z_is in
    let rooms = left_room root (term_at all a) (term_at all c) (term_at all before.term) before.k is left other room in
    subst (IsOperand root all before) (sym same) (record {
      below = below;
      room = rooms.0;
      sum = λ b. left_is root b (term_at all a) (term_at all c) (term_at all before.term) before.k is left;
    })

pub right_operand : (root : Box) (all : List Thing) (before next : Atom) (a c : ℕ) (z : ℤ) → a < before.term → term_at all before.term ≡ term.Product (term_at all a) (term_at all c)
    → is_constant (form root (term_at all a)) ≡ false → is_constant (form root (term_at all c)) ≡ true → (form root (term_at all before.term)).plain ≡ false
    → unsigned_abs before.k * atoms_weight root (term_at all before.term) < 2 ^ 127 → z ≡ (form root (term_at all c)).constant → next ≡ record { k = before.k *ℤ z; term = a }
    → IsOperand root all before next
right_operand root all before next a c z below is left right other room z_is next_is =
    let d = (form root (term_at all c)).constant in
    let same : next ≡ record { k = before.k *ℤ d; term = a } = next_is ∙ ap (λ (y : ℤ). record { k = before.k *ℤ y; term = a }) z_is in
    let rooms = right_room root (term_at all a) (term_at all c) (term_at all before.term) before.k is left right other room in
    subst (IsOperand root all before) (sym same) (record {
      below = below;
      room = rooms.0;
      sum = λ b. right_is root b (term_at all a) (term_at all c) (term_at all before.term) before.k is left right;
    })
