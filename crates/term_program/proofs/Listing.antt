-- The terms of `allDifferent` and of `cumulative`, as they are kept.
use Rattle.std.proofs.Common.{◌≡◌, ◌∙◌, ◌⊎◌, inl, inr, refl, ap, sym, subst, arith, ℕ, ◌+◌, ◌<◌, ◌≤◌, false, cond, List, [], ◌∷◌, ◌++◌, length, get_or, take, Option, Some}
use Rattle.std.proofs.Common.{None, IfSome, IfNone, Vec, Global}
use Rattle.std.proofs.lemmas.List.{get_or_past, map-append}
use Rattle.std.specs.BTreeMap.{get, is_at}
use Rattle.std.specs.List.{flat_map}
use Rattle.std.specs.Ordering.{nat_cmp}
use Rattle.std.proofs.Math.Nat.{eq-or-lt_of_le}
use Rattle.std.proofs.lemmas.Bool.{cases_lt}
use Rattle.box_problem.specs.Box.{Box}
use Rattle.term_language.proofs.FormValues.{by_bool}
use Rattle.term_language.specs.Terms.{Terms, no_term, term}
use Rattle.term_nodes.specs.Built.{AllBelow, IsAt, TasksBelow}
use Rattle.term_nodes.specs.Things.{Thing, nothing, cond_at, cond_in, tasks_at, term_at, terms_at, thing_at, thing_of, things}
use Rattle.term_nodes.proofs.Reading.{length_things}
use Rattle.term_nodes.specs.declared.items.Item.{Item}
use Rattle.term_nodes.specs.declared.nodes.Node.{Node}
use Rattle.term_nodes.specs.declared.nodes.Node.TheVariants as node
use Rattle.term_nodes.specs.declared.nodes.Task.{Task}
use Rattle.term_program.specs.declared.globals.GlobalTerms.{GlobalTerms}
use Rattle.term_store.specs.declared.ids.TermId.{TermId}
use Rattle.term_program.specs.Globals.{AreTermsOf, ListsNode, ListsTerms, global_terms, numbers_in, tasks_then, term_ids}
use Rattle.term_program.proofs.Comparisons.{is_global}
use Rattle.term_program.proofs.Lists.{all_taken, same_key, take_more, taken}

-- numbers one after the other
pub next_id : (ids : List ℕ) (i x : ℕ) (terms : List TermId) (added : TermId) → i < length ids → x ≡ get_or ids i x → added.0 ≡ x → term_ids terms ≡ take i ids
    → term_ids (terms ++ added ∷ []) ≡ take (i + 1) ids
next_id ids i x terms added below at is so_far =
    map-append (λ (id : TermId). id.0) terms (added ∷ []) ∙ ap (λ (xs : List ℕ). xs ++ added.0 ∷ []) so_far ∙ ap (λ (n : ℕ). take i ids ++ n ∷ []) is ∙ sym (take_more ids i x below at)

pub all_ids : (ids : List ℕ) (i : ℕ) (terms : List TermId) → length ids ≤ i → term_ids terms ≡ take i ids → term_ids terms ≡ ids
all_ids ids i terms past so_far = so_far ∙ all_taken ids i past

-- tasks one after the other
pub next_task : (tasks : List Task) (i : ℕ) (x : Task) (before after : List TermId) → i < length tasks → x ≡ get_or tasks i x → term_ids before ≡ flat_map numbers_in (take i tasks)
    → term_ids after ≡ term_ids before ++ numbers_in x → term_ids after ≡ flat_map numbers_in (take (i + 1) tasks)
next_task tasks i x before after below at so_far pushed =
    pushed ∙ ap (λ (ids : List ℕ). ids ++ numbers_in x) so_far ∙ sym (taken numbers_in tasks i x below at)

pub all_tasks : (tasks : List Task) (i : ℕ) (ids : List TermId) (capacity : TermId) → length tasks ≤ i → term_ids ids ≡ flat_map numbers_in (take i tasks)
    → term_ids (ids ++ capacity ∷ []) ≡ flat_map numbers_in tasks ++ capacity.0 ∷ []
all_tasks tasks i ids capacity past so_far =
    map-append (λ (id : TermId). id.0) ids (capacity ∷ []) ∙ ap (λ (xs : List ℕ). xs ++ capacity.0 ∷ []) (so_far ∙ ap (flat_map numbers_in) (all_taken tasks i past))

tasks_listed : (all : List Thing) (tasks : List Task) (capacity : ℕ) → terms_at all (flat_map numbers_in tasks ++ capacity ∷ []) ≡ tasks_then (tasks_at all tasks) (term (term_at all capacity) no_term)
tasks_listed all [] capacity = refl
tasks_listed all (t ∷ tasks) capacity =
    ap (λ (ts : Terms). term (term_at all t.start) (term (term_at all t.duration) (term (term_at all t.demand) ts))) (tasks_listed all tasks capacity)

tasks_below : (limit : ℕ) (tasks : List Task) (capacity : ℕ) → TasksBelow limit tasks → capacity < limit → AllBelow limit (flat_map numbers_in tasks ++ capacity ∷ [])
tasks_below limit [] capacity below last = (last, tt)
tasks_below limit (t ∷ tasks) capacity below last = (below.0.0, (below.0.1.0, (below.0.1.1, tasks_below limit tasks capacity below.1 last)))

-- what is listed of a node
pub different_listed : (n : Node) (terms : Vec ℕ Global) (ids : List TermId) → n ≡ node.AllDifferent terms → term_ids ids ≡ terms.items → ListsNode n ids
different_listed n terms ids is listed = subst (λ (x : Node). ListsNode x ids) (sym is) (record {
  terms = λ all. ap (terms_at all) listed;
  below = λ id below. subst (AllBelow id) (sym listed) below;
})

pub cumulative_listed : (n : Node) (tasks : Vec Task Global) (capacity : ℕ) (ids : List TermId) → n ≡ node.Cumulative tasks capacity
    → term_ids ids ≡ flat_map numbers_in tasks.items ++ capacity ∷ [] → ListsNode n ids
cumulative_listed n tasks capacity ids is listed = subst (λ (x : Node). ListsNode x ids) (sym is) (record {
  terms = λ all. ap (terms_at all) listed ∙ tasks_listed all tasks.items capacity;
  below = λ id below. subst (AllBelow id) (sym listed) (tasks_below id tasks.items capacity below.0 below.1);
})

not_listed : (n : Node) → is_global n ≡ false → (all : List Thing) → no_term ≡ global_terms (cond_in (thing_of all n))
not_listed (node.Constant z) other all = refl
not_listed (node.Cell cell) other all = refl
not_listed (node.Sum parts) other all = refl
not_listed (node.Product a b) other all = refl
not_listed (node.Operation op a) other all = refl
not_listed (node.Extreme e first later) other all = refl
not_listed (node.Element table at) other all = refl
not_listed (node.Number c) other all = refl
not_listed (node.Compare c) other all = refl
not_listed (node.Not c) other all = refl
not_listed (node.All conds) other all = refl
not_listed (node.Any conds) other all = refl
not_listed (node.Implies a c) other all = refl
not_listed (node.AllDifferent terms) other all = cc
not_listed (node.Cumulative tasks capacity) other all = cc
not_listed (node.Table t) other all = refl

pub none_listed : (n x : Node) → n ≡ x → is_global x ≡ false → ListsNode n []
none_listed n x is other = subst (λ (y : Node). ListsNode y []) (sym is) (record { terms = not_listed x other; below = λ id below. tt })

up : (ids : List ℕ) (low high : ℕ) → low ≤ high → AllBelow low ids → AllBelow high ids
up [] low high order below = tt
up (id ∷ ids) low high order below = (omega (arith, order, below.0), up ids low high order below.1)

at_listed : (root : Box) (all : List Thing) (id : ℕ) (item : Item) (ids : List TermId) → IsAt root all id item → id < length all → ListsNode item.node ids → ListsTerms all (cond_at all id) ids
at_listed root all id item ids at exists listed = record {
  terms = listed.terms all ∙ ap (λ (t : Thing). global_terms (cond_in t)) (sym at.thing);
  exist = up (term_ids ids) id (length all) (omega (arith, exists)) (listed.below id at.below);
}

pub node_listed : (root : Box) (items : List Item) (all : List Thing) (id : ℕ) (item : Item) (ids : List TermId) → things items ≡ all → IsAt root (things items) id item → id < length items
    → ListsNode item.node ids → ListsTerms all (cond_at all id) ids
node_listed root items all id item ids same at exists listed =
    subst (λ (ts : List Thing). ListsTerms ts (cond_at ts id) ids) same (at_listed root (things items) id item ids at (omega (arith, length_things items, exists)) listed)

-- what is kept
all_none : (A : Type 0) (P : Type 0) (found : Option A) → P → IfNone found P
all_none A P None is = is
all_none A P (Some x) is = tt

abbrev Puts : GlobalTerms → GlobalTerms → ℕ → Vec TermId Global → Type 0
Puts before after id terms = (q : ℕ) → get nat_cmp after.lists q ≡ cond (is_at (nat_cmp id) q) (Some terms) (get nat_cmp before.lists q)

module _ (all : List Thing) (id : ℕ) (before after : GlobalTerms) (terms : Vec TermId Global) (kept : AreTermsOf all id before) where
  pub next_kept : ListsTerms all (cond_at all id) terms.items → Puts before after id terms → get nat_cmp after.lists id ≡ Some terms → AreTermsOf all (id + 1) after
  next_kept listed puts there = record {
    kept = λ q. subst (λ (o : Option (Vec TermId Global)). IfSome o (λ (ts : Vec TermId Global). ListsTerms all (cond_at all q) ts.items)) (sym (puts q))
        (by_bool (λ t. IfSome (cond t (Some terms) (get nat_cmp before.lists q)) (λ (ts : Vec TermId Global). ListsTerms all (cond_at all q) ts.items)) (is_at (nat_cmp id) q)
        (λ met. subst (λ (k : ℕ). ListsTerms all (cond_at all k) terms.items) (same_key id q met) listed) (λ unmet. kept.kept q));
    none = λ q below. let order : q ≤ id = omega (arith, below) in elim (eq-or-lt_of_le order) [
      | inl is ↦ subst (λ (k : ℕ). IfNone (get nat_cmp after.lists k) (global_terms (cond_at all k) ≡ no_term)) (sym is)
          (subst (λ (o : Option (Vec TermId Global)). IfNone o (global_terms (cond_at all id) ≡ no_term)) (sym there) tt)
      | inr less ↦ subst (λ (o : Option (Vec TermId Global)). IfNone o (global_terms (cond_at all q) ≡ no_term)) (sym (puts q))
          (by_bool (λ t. IfNone (cond t (Some terms) (get nat_cmp before.lists q)) (global_terms (cond_at all q) ≡ no_term)) (is_at (nat_cmp id) q)
          (λ met. tt) (λ unmet. kept.none q less))
    ];
  }

next_without : (all : List Thing) (id : ℕ) (g : GlobalTerms) → AreTermsOf all id g → global_terms (cond_at all id) ≡ no_term → AreTermsOf all (id + 1) g
next_without all id g before without = record {
  kept = before.kept;
  none = λ q below. let order : q ≤ id = omega (arith, below) in elim (eq-or-lt_of_le order) [
    | inl is ↦ all_none (Vec TermId Global) (global_terms (cond_at all q) ≡ no_term) (get nat_cmp g.lists q)
        (subst (λ (k : ℕ). global_terms (cond_at all k) ≡ no_term) (sym is) without)
    | inr less ↦ before.none q less
  ];
}

pub next_empty : (all : List Thing) (id : ℕ) (g : GlobalTerms) (ids : List TermId) → AreTermsOf all id g → ListsTerms all (cond_at all id) ids → length ids ≡ 0 → AreTermsOf all (id + 1) g
next_empty all id g [] before listed empty = next_without all id g before (sym listed.terms)
next_empty all id g (x ∷ ids) before listed empty = absurd (omega (arith, empty))

pub nothing_listed : (all : List Thing) (id : ℕ) (g : GlobalTerms) → AreTermsOf all id g → thing_at all id ≡ nothing → AreTermsOf all (id + 1) g
nothing_listed all id g before none = next_without all id g before (ap (λ (t : Thing). global_terms (cond_in t)) none)

-- what is looked up
pub found_listed : (all : List Thing) (g : GlobalTerms) (id : ℕ) (terms : Vec TermId Global) → AreTermsOf all (length all) g → get nat_cmp g.lists id ≡ Some terms
    → ListsTerms all (cond_at all id) terms.items
found_listed all g id terms kept is = subst (λ (o : Option (Vec TermId Global)). IfSome o (λ (ts : Vec TermId Global). ListsTerms all (cond_at all id) ts.items)) is (kept.kept id)

pub not_found : (all : List Thing) (g : GlobalTerms) (id : ℕ) → AreTermsOf all (length all) g → get nat_cmp g.lists id ≡ None → ListsTerms all (cond_at all id) []
not_found all g id kept is = record { terms = sym (without (cases_lt id (length all))); exist = tt }
  where
    without : (id < length all) ⊎ (length all ≤ id) → global_terms (cond_at all id) ≡ no_term
    without (inr past) = ap (λ (t : Thing). global_terms (cond_in t)) (get_or_past all id nothing past)
    without (inl below) = subst (λ (o : Option (Vec TermId Global)). IfNone o (global_terms (cond_at all id) ≡ no_term)) is (kept.none id below)
