-- Which term a node's left operand is, and what is reached by several steps to the left operand.
use Rattle.std.proofs.Common.{◌≡◌, ◌≢◌, ℕ, ◌+◌, ◌-◌, ◌<◌, ◌≤◌, zero, suc, Bool, true, ◌&&◌, List, Option, Some, None, IfNone, IfSome, arith, refl, ap, subst, sym, ◌∙◌}
use Rattle.box_problem.specs.Box.{Box}
use Rattle.term_language.specs.Marks.{is_always}
use Rattle.term_language.specs.Rules.{Reading, Wide, form, mark}
use Rattle.term_language.specs.Terms as rule
use Rattle.term_language.specs.declared.made.Operation.{Operation}
use Rattle.term_nodes.specs.declared.nodes.Node.{Node}
use Rattle.term_nodes.specs.declared.nodes.Node.TheVariants as node
use Rattle.term_nodes.specs.declared.items.Item.{Item}
use Rattle.term_nodes.specs.Things.{Thing, nothing, term_in, term_at, thing_at, thing_of}
use Rattle.term_nodes.specs.Built.{Facts, IsAt, IsBelow}
use Rattle.term_nodes.specs.Operands.{left_in, left_operand, steps_down}
use Rattle.term_nodes.specs.Seen.{Sight, sight}

some_is : (x a : ℕ) → (◌≡◌ {A = Option ℕ}) (Some x) (Some a) → x ≡ a
some_is x a is = cc

no_some : (a : ℕ) → (◌≡◌ {A = Option ℕ}) None (Some a) → ⊥
no_some a is = absurd (cc)

some_no : (x : ℕ) → (◌≡◌ {A = Option ℕ}) (Some x) None → ⊥
some_no x is = absurd (cc)

-- where a node has a left operand
below_node : (id : ℕ) (n : Node) (a : ℕ) → left_in n ≡ Some a → IsBelow id n → a < id
below_node id (node.Constant z) a is below = absurd (no_some a is)
below_node id (node.Cell cell) a is below = absurd (no_some a is)
below_node id (node.Sum parts) a is below = absurd (no_some a is)
below_node id (node.Product x y) a is below = subst (λ (b : ℕ). b < id) (some_is x a is) below.0
below_node id (node.Operation op x) a is below = subst (λ (b : ℕ). b < id) (some_is x a is) below
below_node id (node.Extreme e first later) a is below = absurd (no_some a is)
below_node id (node.Element table at) a is below = absurd (no_some a is)
below_node id (node.Number c) a is below = absurd (no_some a is)
below_node id (node.Compare c) a is below = absurd (no_some a is)
below_node id (node.Not c) a is below = absurd (no_some a is)
below_node id (node.All conds) a is below = absurd (no_some a is)
below_node id (node.Any conds) a is below = absurd (no_some a is)
below_node id (node.Implies b c) a is below = absurd (no_some a is)
below_node id (node.AllDifferent terms) a is below = absurd (no_some a is)
below_node id (node.Cumulative tasks capacity) a is below = absurd (no_some a is)
below_node id (node.Table t) a is below = absurd (no_some a is)

operand_of_node : (all : List Thing) (n : Node) (a : ℕ) → left_in n ≡ Some a → term_at all a ≡ left_operand (term_in (thing_of all n))
operand_of_node all (node.Constant z) a is = absurd (no_some a is)
operand_of_node all (node.Cell cell) a is = absurd (no_some a is)
operand_of_node all (node.Sum parts) a is = absurd (no_some a is)
operand_of_node all (node.Product x y) a is = ap (term_at all) (sym (some_is x a is))
operand_of_node all (node.Operation op x) a is = ap (term_at all) (sym (some_is x a is))
operand_of_node all (node.Extreme e first later) a is = absurd (no_some a is)
operand_of_node all (node.Element table at) a is = absurd (no_some a is)
operand_of_node all (node.Number c) a is = absurd (no_some a is)
operand_of_node all (node.Compare c) a is = absurd (no_some a is)
operand_of_node all (node.Not c) a is = absurd (no_some a is)
operand_of_node all (node.All conds) a is = absurd (no_some a is)
operand_of_node all (node.Any conds) a is = absurd (no_some a is)
operand_of_node all (node.Implies b c) a is = absurd (no_some a is)
operand_of_node all (node.AllDifferent terms) a is = absurd (no_some a is)
operand_of_node all (node.Cumulative tasks capacity) a is = absurd (no_some a is)
operand_of_node all (node.Table t) a is = absurd (no_some a is)

-- where it has none
alone_in_node : (all : List Thing) (n : Node) → left_in n ≡ None → left_operand (term_in (thing_of all n)) ≡ term_in (thing_of all n)
alone_in_node all (node.Constant z) is = refl
alone_in_node all (node.Cell cell) is = refl
alone_in_node all (node.Sum parts) is = refl
alone_in_node all (node.Product x y) is = absurd (some_no x is)
alone_in_node all (node.Operation op x) is = absurd (some_no x is)
alone_in_node all (node.Extreme e first later) is = refl
alone_in_node all (node.Element table at) is = refl
alone_in_node all (node.Number c) is = refl
alone_in_node all (node.Compare c) is = refl
alone_in_node all (node.Not c) is = refl
alone_in_node all (node.All conds) is = refl
alone_in_node all (node.Any conds) is = refl
alone_in_node all (node.Implies b c) is = refl
alone_in_node all (node.AllDifferent terms) is = refl
alone_in_node all (node.Cumulative tasks capacity) is = refl
alone_in_node all (node.Table t) is = refl

-- the node of a number
pub left_below : (root : Box) (all : List Thing) (id : ℕ) (item : Item) (a : ℕ) → IsAt root all id item → left_in item.node ≡ Some a → a < id
left_below root all id item a at is = below_node id item.node a is at.below

pub left_is : (root : Box) (all : List Thing) (id : ℕ) (item : Item) (a : ℕ) → IsAt root all id item → left_in item.node ≡ Some a → term_at all a ≡ left_operand (term_at all id)
left_is root all id item a at is = operand_of_node all item.node a is ∙ ap (λ (t : Thing). left_operand (term_in t)) (sym at.thing)

pub left_none : (root : Box) (all : List Thing) (id : ℕ) (item : Item) → IsAt root all id item → left_in item.node ≡ None → term_at all id ≡ left_operand (term_at all id)
left_none root all id item at is =
    ap term_in at.thing ∙ sym (alone_in_node all item.node is) ∙ ap (λ (t : Thing). left_operand (term_in t)) (sym at.thing)

pub left_nothing : (all : List Thing) (id : ℕ) → thing_at all id ≡ nothing → term_at all id ≡ left_operand (term_at all id)
left_nothing all id none = ap term_in none ∙ ap (λ (t : Thing). left_operand (term_in t)) (sym none)

pub if_below : (root : Box) (all : List Thing) (id : ℕ) (item : Item) (o : Option ℕ) → IsAt root all id item → o ≡ left_in item.node → IfSome o (λ a. a < id)
if_below root all id item None at is = tt
if_below root all id item (Some a) at is = left_below root all id item a at (sym is)

pub if_left : (root : Box) (all : List Thing) (id : ℕ) (item : Item) (o : Option ℕ) → IsAt root all id item → o ≡ left_in item.node → IfSome o (λ a. term_at all a ≡ left_operand (term_at all id))
if_left root all id item None at is = tt
if_left root all id item (Some a) at is = left_is root all id item a at (sym is)

-- where a chain ends: at a term that has no left operand, or that is plain
pub nothing_ends : (all : List Thing) (id : ℕ) (plain : Bool) → thing_at all id ≡ nothing → left_operand (term_at all id) ≢ term_at all id → plain ≡ true
nothing_ends all id plain none goes = absurd (goes (sym (left_nothing all id none)))

pub plain_ends : (root : Box) (all : List Thing) (id : ℕ) (item : Item) → IsAt root all id item → (item.facts.form.plain && is_always item.facts.wide_mark) ≡ true
    → left_operand (term_at all id) ≢ term_at all id → ((form root (term_at all id)).plain && is_always (mark Wide root root (term_at all id))) ≡ true
plain_ends root all id item at plain goes =
    ap (λ (thing : Thing). (form root (term_in thing)).plain && is_always (mark Wide root root (term_in thing))) at.thing
    ∙ ap (λ (f : Facts). f.form.plain && is_always f.wide_mark) (sym at.kept)
    ∙ plain

pub if_ends : (root : Box) (all : List Thing) (id : ℕ) (item : Item) (o : Option ℕ) (plain : Bool) → IsAt root all id item → o ≡ left_in item.node
    → IfNone o (left_operand (term_at all id) ≢ term_at all id → plain ≡ true)
if_ends root all id item None plain at is = λ goes. absurd (goes (sym (left_none root all id item at (sym is))))
if_ends root all id item (Some a) plain at is = tt

-- one step more
pub one_step : (all : List Thing) (top id left n : ℕ) → term_at all id ≡ steps_down n (term_at all top) → term_at all left ≡ left_operand (term_at all id) → term_at all left
    ≡ steps_down (n + 1) (term_at all top)
one_step all top id left n reached is =
    let more : suc n ≡ n + 1 = omega arith in
    is ∙ ap left_operand reached ∙ ap (λ (k : ℕ). steps_down k (term_at all top)) more

-- some steps, and then others
behind : (m n : ℕ) (t : rule.Term) → steps_down (m + n) t ≡ steps_down m (steps_down n t)
behind zero n t =
    let none : zero + n ≡ n = omega arith in
    ap (λ (k : ℕ). steps_down k t) none
behind (suc m) n t =
    let more : suc m + n ≡ suc (m + n) = omega arith in
    ap (λ (k : ℕ). steps_down k t) more ∙ ap left_operand (behind m n t)

pub further : (all : List Thing) (top middle n half : ℕ) → half ≤ n → term_at all middle ≡ steps_down half (term_at all top) → steps_down (n - half) (term_at all middle)
    ≡ steps_down n (term_at all top)
further all top middle n half within is =
    let whole : n - half + half ≡ n = omega (arith, within) in
    ap (steps_down (n - half)) is ∙ sym (behind (n - half) half (term_at all top)) ∙ ap (λ (k : ℕ). steps_down k (term_at all top)) whole

pub from_left : (all : List Thing) (top left bottom n : ℕ) → term_at all left ≡ left_operand (term_at all top) → term_at all bottom ≡ steps_down n (term_at all left) → term_at all bottom
    ≡ steps_down (n + 1) (term_at all top)
from_left all top left bottom n is reached =
    reached ∙ ap (steps_down n) is ∙ sym (behind n 1 (term_at all top))

-- a node that is given what its left operand is
pub product_operand : (root : Box) (all : List Thing) (id : ℕ) (item : Item) (a b : ℕ) → IsAt root all id item → item.node ≡ node.Product a b → term_at all a ≡ left_operand (term_at all id)
product_operand root all id item a b at is = left_is root all id item a at (ap left_in is)

pub operation_operand : (root : Box) (all : List Thing) (id : ℕ) (item : Item) (op : Operation) (a : ℕ) → IsAt root all id item → item.node ≡ node.Operation op a → term_at all a
    ≡ left_operand (term_at all id)
operation_operand root all id item op a at is = left_is root all id item a at (ap left_in is)

pub product_below : (reading : Reading) (root b : Box) (all : List Thing) (id : ℕ) (item : Item) (x y : ℕ) (s : Sight) → IsAt root all id item → item.node ≡ node.Product x y → s
    ≡ sight reading root b (left_operand (term_at all id)) → s ≡ sight reading root b (term_at all x)
product_below reading root b all id item x y s at is seen = seen ∙ ap (sight reading root b) (sym (product_operand root all id item x y at is))

pub operation_below : (reading : Reading) (root b : Box) (all : List Thing) (id : ℕ) (item : Item) (op : Operation) (x : ℕ) (s : Sight) → IsAt root all id item → item.node ≡ node.Operation op x → s
    ≡ sight reading root b (left_operand (term_at all id)) → s ≡ sight reading root b (term_at all x)
operation_below reading root b all id item op x s at is seen = seen ∙ ap (sight reading root b) (sym (operation_operand root all id item op x at is))

pub no_operand : (reading : Reading) (root b : Box) (all : List Thing) (id : ℕ) (item : Item) (n : Node) (s : Sight) → IsAt root all id item → item.node ≡ n → left_in n ≡ None → s
    ≡ sight reading root b (left_operand (term_at all id)) → s ≡ sight reading root b (term_at all id)
no_operand reading root b all id item n s at is none seen = seen ∙ ap (sight reading root b) (sym (left_none root all id item at (ap left_in is ∙ none)))

pub nothing_there : (reading : Reading) (root b : Box) (all : List Thing) (id : ℕ) (s : Sight) → thing_at all id ≡ nothing → s ≡ sight reading root b (left_operand (term_at all id)) → s ≡ sight reading root b (term_at all id)
nothing_there reading root b all id s none seen = seen ∙ ap (sight reading root b) (sym (left_nothing all id none))

-- the sight of what is reached
pub reached_sight : (reading : Reading) (root b : Box) (all : List Thing) (top id n : ℕ) (s : Sight) → s ≡ sight reading root b (term_at all id) → term_at all id ≡ steps_down n (term_at all top) → s
    ≡ sight reading root b (steps_down n (term_at all top))
reached_sight reading root b all top id n s seen reached = seen ∙ ap (sight reading root b) reached

pub further_sight : (reading : Reading) (root b : Box) (all : List Thing) (top middle n half : ℕ) (s : Sight) → half ≤ n → term_at all middle ≡ steps_down half (term_at all top) → s
    ≡ sight reading root b (steps_down n (term_at all top)) → s ≡ sight reading root b (steps_down (n - half) (term_at all middle))
further_sight reading root b all top middle n half s within is seen = seen ∙ ap (sight reading root b) (sym (further all top middle n half within is))

pub no_steps : (reading : Reading) (root b : Box) (t : rule.Term) (n : ℕ) (s : Sight) → n ≡ 0 → s ≡ sight reading root b (steps_down n t) → s ≡ sight reading root b t
no_steps reading root b t n s none seen = seen ∙ ap (λ (k : ℕ). sight reading root b (steps_down k t)) none

pub last_step : (reading : Reading) (root b : Box) (t : rule.Term) (n : ℕ) (s : Sight) → n ≡ 1 → s ≡ sight reading root b (steps_down n t) → s ≡ sight reading root b (left_operand t)
last_step reading root b t n s one seen = seen ∙ ap (λ (k : ℕ). sight reading root b (steps_down k t)) one
