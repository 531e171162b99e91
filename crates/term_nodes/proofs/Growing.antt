-- Nodes that are added change nothing of those before them.
use Rattle.std.proofs.Common.{◌≡◌, inl, inr, ℕ, ◌<◌, ◌≤◌, zero, suc, negsuc, List, [], ◌∷◌, ◌++◌, length, get_or, arith, refl, ap, subst, sym, ◌∙◌, length-append}
use Rattle.std.proofs.lemmas.Bool.{cases_lt}
use Rattle.box_problem.specs.Box.{Box}
use Rattle.term_nodes.specs.declared.nodes.Node.{Node}
use Rattle.term_nodes.specs.declared.nodes.Node.TheVariants as node
use Rattle.term_nodes.specs.declared.nodes.Signed.{Signed}
use Rattle.term_nodes.specs.declared.nodes.Task.{Task}
use Rattle.term_nodes.specs.declared.items.Item.{Item}
use Rattle.term_language.specs.Terms as rule
use Rattle.term_language.specs.Forms as forms
use Rattle.term_language.specs.Rules.{form}
use Rattle.term_nodes.specs.Things.{Thing, a_term, a_cond, term_in, cond_in, table_in, term_at, cond_at, table_at, thing_at, thing_of, parts_at, terms_at, conds_at, tasks_at, things, things_from}
use Rattle.term_nodes.specs.Built.{IsAt, IsBuilt, IsNew, IsBelow, IsSound, IsRight, PartsBelow, AllBelow, TasksBelow, facts_of}
use Rattle.term_nodes.proofs.Reading.{length_things}

things_after : (known : List Thing) (items : List Item) (item : Item) → things_from known (items ++ item ∷ []) ≡ things_from known items ++ thing_of (things_from known items) item.node ∷ []
things_after known [] item = refl
things_after known (first ∷ items) item = things_after (known ++ thing_of known first.node ∷ []) items item

pub things_more : (items : List Item) (item : Item) → things (items ++ item ∷ []) ≡ things items ++ thing_of (things items) item.node ∷ []
things_more items item = things_after [] items item

-- what stands below stays
pub stays : (all : List Thing) (more : Thing) (id : ℕ) → id < length all → thing_at (all ++ more ∷ []) id ≡ thing_at all id
stays [] more id there = let empty : ⊥ = omega (arith, there) in elim empty [ ]
stays (x ∷ all) more zero there = refl
stays (x ∷ all) more (suc id) there = stays all more id (omega (arith, there))

pub last_is : (all : List Thing) (more : Thing) → thing_at (all ++ more ∷ []) (length all) ≡ more
last_is [] more = refl
last_is (x ∷ all) more = last_is all more

term_stays : (all : List Thing) (more : Thing) (n id : ℕ) → n ≤ length all → id < n → term_at (all ++ more ∷ []) id ≡ term_at all id
term_stays all more n id most below = ap term_in (stays all more id (omega (arith, most, below)))

cond_stays : (all : List Thing) (more : Thing) (n id : ℕ) → n ≤ length all → id < n → cond_at (all ++ more ∷ []) id ≡ cond_at all id
cond_stays all more n id most below = ap cond_in (stays all more id (omega (arith, most, below)))

parts_stay : (all : List Thing) (more : Thing) (n : ℕ) (parts : List Signed) → n ≤ length all → PartsBelow n parts → parts_at (all ++ more ∷ []) parts ≡ parts_at all parts
parts_stay all more n [] most below = refl
parts_stay all more n (p ∷ parts) most below =
    ap (λ (t : rule.Term). rule.part p.subtracted t (parts_at (all ++ more ∷ []) parts)) (term_stays all more n p.term most below.0)
    ∙ ap (rule.part p.subtracted (term_at all p.term)) (parts_stay all more n parts most below.1)

table_stays : (all : List Thing) (more : Thing) (n id : ℕ) → n ≤ length all → id < n → table_at (all ++ more ∷ []) id ≡ table_at all id
table_stays all more n id most below = ap table_in (stays all more id (omega (arith, most, below)))

terms_stay : (all : List Thing) (more : Thing) (n : ℕ) (ids : List ℕ) → n ≤ length all → AllBelow n ids → terms_at (all ++ more ∷ []) ids ≡ terms_at all ids
terms_stay all more n [] most below = refl
terms_stay all more n (id ∷ ids) most below =
    ap (λ (t : rule.Term). rule.term t (terms_at (all ++ more ∷ []) ids)) (term_stays all more n id most below.0)
    ∙ ap (rule.term (term_at all id)) (terms_stay all more n ids most below.1)

conds_stay : (all : List Thing) (more : Thing) (n : ℕ) (ids : List ℕ) → n ≤ length all → AllBelow n ids → conds_at (all ++ more ∷ []) ids ≡ conds_at all ids
conds_stay all more n [] most below = refl
conds_stay all more n (id ∷ ids) most below =
    ap (λ (c : rule.Cond). rule.condition c (conds_at (all ++ more ∷ []) ids)) (cond_stays all more n id most below.0)
    ∙ ap (rule.condition (cond_at all id)) (conds_stay all more n ids most below.1)

tasks_stay : (all : List Thing) (more : Thing) (n : ℕ) (tasks : List Task) → n ≤ length all → TasksBelow n tasks → tasks_at (all ++ more ∷ []) tasks ≡ tasks_at all tasks
tasks_stay all more n [] most below = refl
tasks_stay all more n (t ∷ tasks) most below =
    ap (λ (s : rule.Term). rule.task s (term_at (all ++ more ∷ []) t.duration) (term_at (all ++ more ∷ []) t.demand) (tasks_at (all ++ more ∷ []) tasks)) (term_stays all more n t.start most below.0.0)
    ∙ ap (λ (d : rule.Term). rule.task (term_at all t.start) d (term_at (all ++ more ∷ []) t.demand) (tasks_at (all ++ more ∷ []) tasks)) (term_stays all more n t.duration most below.0.1.0)
    ∙ ap (λ (m : rule.Term). rule.task (term_at all t.start) (term_at all t.duration) m (tasks_at (all ++ more ∷ []) tasks)) (term_stays all more n t.demand most below.0.1.1)
    ∙ ap (rule.task (term_at all t.start) (term_at all t.duration) (term_at all t.demand)) (tasks_stay all more n tasks most below.1)

two_terms : (make : rule.Term → rule.Term → Thing) (all : List Thing) (more : Thing) (n a b : ℕ) → n ≤ length all → a < n → b < n → make (term_at (all ++ more ∷ []) a) (term_at (all ++ more ∷ []) b)
    ≡ make (term_at all a) (term_at all b)
two_terms make all more n a b most left right =
    ap (λ (t : rule.Term). make t (term_at (all ++ more ∷ []) b)) (term_stays all more n a most left)
    ∙ ap (make (term_at all a)) (term_stays all more n b most right)

pub thing_stays : (all : List Thing) (more : Thing) (n : ℕ) (x : Node) → n ≤ length all → IsBelow n x → thing_of (all ++ more ∷ []) x ≡ thing_of all x
thing_stays all more n (node.Constant z) most below = refl
thing_stays all more n (node.Cell cell) most below = refl
thing_stays all more n (node.Sum parts) most below = ap (λ (ps : rule.Parts). a_term (rule.Sum ps)) (parts_stay all more n parts.items most below)
thing_stays all more n (node.Product a b) most below = two_terms (λ s t. a_term (rule.Product s t)) all more n a b most below.0 below.1
thing_stays all more n (node.Operation op a) most below = ap (λ (t : rule.Term). a_term (rule.Made op t)) (term_stays all more n a most below)
thing_stays all more n (node.Extreme e first later) most below =
    ap (λ (t : rule.Term). a_term (rule.Selected e t (terms_at (all ++ more ∷ []) later.items))) (term_stays all more n first most below.0)
    ∙ ap (λ (ts : rule.Terms). a_term (rule.Selected e (term_at all first) ts)) (terms_stay all more n later.items most below.1)
thing_stays all more n (node.Element table at) most below =
    ap (λ (t : rule.Table). a_term (rule.Element t (terms_at (all ++ more ∷ []) at.items))) (table_stays all more n table most below.0)
    ∙ ap (λ (ts : rule.Terms). a_term (rule.Element (table_at all table) ts)) (terms_stay all more n at.items most below.1)
thing_stays all more n (node.Number c) most below = ap (λ (t : rule.Cond). a_term (rule.Number t)) (cond_stays all more n c most below)
thing_stays all more n (node.Compare c) most below = two_terms (λ s t. a_cond (rule.Compare c.op s t)) all more n c.left c.right most below.0 below.1
thing_stays all more n (node.Not c) most below = ap (λ (t : rule.Cond). a_cond (rule.Not t)) (cond_stays all more n c most below)
thing_stays all more n (node.All conds) most below = ap (λ (cs : rule.Conds). a_cond (rule.All cs)) (conds_stay all more n conds.items most below)
thing_stays all more n (node.Any conds) most below = ap (λ (cs : rule.Conds). a_cond (rule.Any cs)) (conds_stay all more n conds.items most below)
thing_stays all more n (node.Implies a c) most below =
    ap (λ (t : rule.Cond). a_cond (rule.Implies t (cond_at (all ++ more ∷ []) c))) (cond_stays all more n a most below.0)
    ∙ ap (λ (t : rule.Cond). a_cond (rule.Implies (cond_at all a) t)) (cond_stays all more n c most below.1)
thing_stays all more n (node.AllDifferent terms) most below = ap (λ (ts : rule.Terms). a_cond (rule.AllDifferent ts)) (terms_stay all more n terms.items most below)
thing_stays all more n (node.Cumulative tasks capacity) most below =
    ap (λ (ts : rule.Tasks). a_cond (rule.Cumulative ts (term_at (all ++ more ∷ []) capacity))) (tasks_stay all more n tasks.items most below.0)
    ∙ ap (λ (t : rule.Term). a_cond (rule.Cumulative (tasks_at all tasks.items) t)) (term_stays all more n capacity most below.1)
thing_stays all more n (node.Table t) most below = refl

right_stays : (root : Box) (all : List Thing) (more : Thing) (n : ℕ) (x : Node) → n ≤ length all → IsBelow n x → IsRight root all x → IsRight root (all ++ more ∷ []) x
right_stays root all more n (node.Constant z) most below is = tt
right_stays root all more n (node.Cell cell) most below is = tt
right_stays root all more n (node.Sum parts) most below is = tt
right_stays root all more n (node.Product a b) most below is = tt
right_stays root all more n (node.Operation op a) most below is = is
right_stays root all more n (node.Extreme e first later) most below is = tt
right_stays root all more n (node.Element table at) most below is = tt
right_stays root all more n (node.Number c) most below is = tt
right_stays root all more n (node.Compare c) most below is =
    is ∙ sym (ap (λ (t : rule.Term). forms.plus_form (negsuc 0) (form root t) (form root (term_at (all ++ more ∷ []) c.right))) (term_stays all more n c.left most below.0)
    ∙ ap (λ (t : rule.Term). forms.plus_form (negsuc 0) (form root (term_at all c.left)) (form root t)) (term_stays all more n c.right most below.1))
right_stays root all more n (node.Not c) most below is = tt
right_stays root all more n (node.All conds) most below is = tt
right_stays root all more n (node.Any conds) most below is = tt
right_stays root all more n (node.Implies a c) most below is = tt
right_stays root all more n (node.AllDifferent terms) most below is = tt
right_stays root all more n (node.Cumulative tasks capacity) most below is = tt
right_stays root all more n (node.Table t) most below is = tt

-- what stands at a number, old or new
old_at : (root : Box) (all : List Thing) (more : Thing) (id : ℕ) (item : Item) → id < length all → IsAt root all id item → IsAt root (all ++ more ∷ []) id item
old_at root all more id item there at =
    let same : thing_of (all ++ more ∷ []) item.node ≡ thing_of all item.node = thing_stays all more id item.node (omega (arith, there)) at.below in
    record {
      thing = stays all more id there ∙ at.thing ∙ sym same;
      below = at.below;
      kept = at.kept ∙ ap (facts_of root) (sym same);
      sound = subst (IsSound root) (sym same) at.sound;
      right = right_stays root all more id item.node (omega (arith, there)) at.below at.right;
    }

new_at : (root : Box) (items : List Item) (item : Item) → IsNew root items item → IsAt root (things items ++ thing_of (things items) item.node ∷ []) (length items) item
new_at root items item new =
    let all = things items in
    let count : length items ≤ length all = omega (arith, length_things items) in
    let same : thing_of (all ++ thing_of all item.node ∷ []) item.node ≡ thing_of all item.node = thing_stays all (thing_of all item.node) (length items) item.node count new.below in
    record {
      thing = ap (thing_at (all ++ thing_of all item.node ∷ [])) (sym (length_things items)) ∙ last_is all (thing_of all item.node) ∙ sym same;
      below = new.below;
      kept = new.kept ∙ ap (facts_of root) (sym same);
      sound = subst (IsSound root) (sym same) new.sound;
      right = right_stays root all (thing_of all item.node) (length items) item.node count new.below new.right;
    }

-- an element of a list with one more
old_item : (items : List Item) (item x d : Item) (id : ℕ) → id < length items → x ≡ get_or (items ++ item ∷ []) id d → x ≡ get_or items id d
old_item [] item x d id there at = let empty : ⊥ = omega (arith, there) in elim empty [ ]
old_item (y ∷ items) item x d zero there at = at
old_item (y ∷ items) item x d (suc id) there at = old_item items item x d id (omega (arith, there)) at

last_of : (items : List Item) (item d : Item) → get_or (items ++ item ∷ []) (length items) d ≡ item
last_of [] item d = refl
last_of (y ∷ items) item d = last_of items item d

last_item : (items : List Item) (item x d : Item) (id : ℕ) → id ≡ length items → x ≡ get_or (items ++ item ∷ []) id d → x ≡ item
last_item items item x d id is at = at ∙ ap (λ (n : ℕ). get_or (items ++ item ∷ []) n d) is ∙ last_of items item d

pub built_more : (root : Box) (items : List Item) (item : Item) → IsBuilt root items → IsNew root items item → IsBuilt root (items ++ item ∷ [])
built_more root items item all new = record {
  each = λ id x there at.
      elim (cases_lt id (length items)) [
        | inl old ↦
            subst (λ (ts : List Thing). IsAt root ts id x) (sym (things_more items item))
            (old_at root (things items) (thing_of (things items) item.node) id x (omega (arith, length_things items, old)) (all.each id x old (old_item items item x x id old at)))
        | inr past ↦
            let last : id ≡ length items = omega (arith, past, there, length-append items (item ∷ [])) in
            subst (λ (ts : List Thing). IsAt root ts id x) (sym (things_more items item))
            (subst (λ (n : ℕ). IsAt root (things items ++ thing_of (things items) item.node ∷ []) n x) (sym last)
            (subst (IsAt root (things items ++ thing_of (things items) item.node ∷ []) (length items)) (sym (last_item items item x x id last at)) (new_at root items item new)))
      ];
}
