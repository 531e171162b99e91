-- What stands at the numbers of a store, and what is known of its simplest terms.
use Rattle.std.proofs.Common.{◌≡◌, inl, inr, ℕ, pos, ◌<◌, List, [], ◌∷◌, length, get_or, arith, ap, subst, sym, ◌∙◌}
use Rattle.std.proofs.lemmas.Bool.{cases_lt}
use Rattle.std.proofs.lemmas.List.{get_or_default}
use Rattle.box_problem.specs.Box.{Box}
use Rattle.term_language.specs.Terms as rule
use Rattle.term_language.specs.Terms.{Item, Fixed, Free}
use Rattle.term_language.specs.Rules.{Wide, truth}
use Rattle.term_language.specs.Sizes.{size}
use Rattle.term_language.specs.declared.answers.Truth.{Truth}
use Rattle.term_language.specs.Laws.{IsProperCond, AreProperConds, AreProperTasks}
use Rattle.term_nodes.specs.declared.items.Item as stored
use Rattle.term_nodes.specs.Things.{Thing, a_cond, a_table, a_term, term_in, cond_in, cond_at, conds_at, tasks_at, things}
use Rattle.term_nodes.specs.Built.{IsAt, IsBuilt, AllBelow, facts_of, of_truth}
use Rattle.term_nodes.proofs.Reading.{length_things, nothing_past}
use Rattle.term_nodes.proofs.Ready.{small_term}
use Rattle.term_nodes.specs.declared.nodes.Task.{Task}
use Rattle.term_store.specs.Atoms.{leaf_of, size_of_item}

pub proper_at : (root : Box) (items : List stored.Item) (id : ℕ) → IsBuilt root items → IsProperCond (cond_at (things items) id)
proper_at root [] id all = tt
proper_at root (first ∷ rest) id all =
    elim (cases_lt id (length (first ∷ rest))) [
      | inl there ↦
          let items : List stored.Item = first ∷ rest in
          let at : IsAt root (things items) id (get_or items id first) = all.each id (get_or items id first) there (get_or_default items id first (get_or items id first) there) in
          subst (λ (t : Thing). IsProperCond (cond_in t)) (sym at.thing) at.sound.cond
      | inr past ↦ subst (λ (t : Thing). IsProperCond (cond_in t)) (sym (nothing_past (first ∷ rest) id past)) tt
    ]

pub propers_at : (root : Box) (items : List stored.Item) (ids : List ℕ) → IsBuilt root items → AreProperConds (conds_at (things items) ids)
propers_at root items [] all = tt
propers_at root items (id ∷ ids) all = (proper_at root items id all, propers_at root items ids all)

pub tasks_proper : (root : Box) (items : List stored.Item) (xs : List Task) → IsBuilt root items → AreProperTasks (tasks_at (things items) xs)
tasks_proper root items [] all = tt
tasks_proper root items (x ∷ xs) all =
    ((small_term root items x.start all).proper, (small_term root items x.duration all).proper, (small_term root items x.demand all).proper, tasks_proper root items xs all)

-- numbers of nodes that are there
pub is_there : (items : List stored.Item) (id : ℕ) → id < length (things items) → id < length items
is_there items id there = omega (arith, there, length_things items)

pub all_there : (items : List stored.Item) (ids : List ℕ) → AllBelow (length (things items)) ids → AllBelow (length items) ids
all_there items ids there = subst (λ (n : ℕ). AllBelow n ids) (length_things items) there

-- with no node, all is right
pub none_built : (root : Box) (items : List stored.Item) → items ≡ [] → IsBuilt root items
none_built root items none = record {
  each = λ id item there at. let empty : ⊥ = omega (arith, there, ap length none) in elim empty [ ];
}

-- numbers and cells
pub leaf_size : (root : Box) (item : Item) → size_of_item root item ≡ size root (leaf_of item)
leaf_size root (Fixed z) = omega arith
leaf_size root (Free cell) = omega arith

-- conditions, and arrays, of which nothing is known
pub cond_known : (root : Box) (thing : Thing) (t : Truth) → term_in thing ≡ rule.Constant (pos 0) → t ≡ truth Wide root root (cond_in thing) → of_truth t ≡ facts_of root thing
cond_known root (a_term x) t no_term is = ap of_truth is ∙ ap (λ (y : rule.Term). facts_of root (a_term y)) (sym no_term)
cond_known root (a_cond c) t no_term is = ap of_truth is
cond_known root (a_table x) t no_term is = ap of_truth is
