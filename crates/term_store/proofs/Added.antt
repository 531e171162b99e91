-- What is added is right.
use Rattle.std.proofs.Common.{◌≡◌, ◌∙◌, ap, sym, subst, arith, ℕ, ℤ, ◌<◌, ◌≤◌, ◌^◌, Bool, List, [], ◌∷◌, ◌++◌, length, length-append, Vec, Global, Ok, inr}
use Rattle.box_problem.specs.Box.{Box}
use Rattle.term_language.specs.Laws.{IsProper, IsProperCond, IsTable}
use Rattle.term_language.specs.Sizes.{size}
use Rattle.term_language.specs.Terms as rule
use Rattle.sopl_base.specs.declared.extreme.Extreme.{Extreme}
use Rattle.term_nodes.specs.declared.items.Facts as own
use Rattle.term_nodes.specs.declared.items.Item.{Item}
use Rattle.term_nodes.specs.declared.nodes.Node.{Node}
use Rattle.term_nodes.specs.declared.nodes.Node.TheVariants as node
use Rattle.term_nodes.specs.declared.nodes.Signed.{Signed}
use Rattle.term_nodes.specs.declared.nodes.Task.{Task}
use Rattle.term_nodes.specs.Built.{AllBelow, IsAt, IsBelow, IsBuilt, IsNew, IsRight, PartsBelow, TasksBelow, facts_of, kept}
use Rattle.term_nodes.specs.Things.{Thing, a_cond, a_term, cond_in, conds_at, no_table, parts_at, table_at, table_in, tasks_at, term_at, term_in, terms_at, thing_at, thing_of, things}
use Rattle.term_nodes.proofs.Growing.{last_is, stays}
use Rattle.term_nodes.proofs.Reading.{length_things}
use Rattle.term_nodes.proofs.Ready.{no_table_is, small_term, table_proper, terms_proper}
use Rattle.term_store.specs.Additions.{AddsTerm, Grows, IsNodeFor, Stands, cond_ids, extreme_at, signed_of, task_ids, term_ids}
use Rattle.term_store.specs.Stores.{IsAdded}
use Rattle.term_store.specs.declared.ids.CondId.{CondId}
use Rattle.term_store.specs.declared.ids.TableId.{TableId}
use Rattle.term_store.specs.declared.ids.TermId.{TermId}
use Rattle.term_store.proofs.Adding.{proper_at, propers_at, tasks_proper}
use Rattle.term_store.proofs.Summing.{parts_proper}

-- Nodes that stand for what is to be added.

module _ (root : Box) (all : List Thing) where
  pub sum_node : (list : Vec Signed Global) (parts : List (Bool × TermId)) → list.items ≡ signed_of parts → PartsBelow (length all) (signed_of parts)
      → IsNodeFor root all (a_term (rule.Sum (parts_at all (signed_of parts)))) (node.Sum list)
  sum_node list parts same there = record {
    is = ap (λ (l : List Signed). a_term (rule.Sum (parts_at all l))) same;
    below = subst (PartsBelow (length all)) (sym same) there;
    right = tt;
  }

  pub extreme_node : (e : Extreme) (first : TermId) (later parts : List TermId) (list : Vec ℕ Global) → parts ≡ first ∷ later → list.items ≡ term_ids later → AllBelow (length all) (term_ids parts)
      → IsNodeFor root all (a_term (extreme_at e all parts)) (node.Extreme e first.0 list)
  extreme_node e first later parts list are same there =
      let both = subst (λ (l : List TermId). AllBelow (length all) (term_ids l)) are there in
      record {
        is = ap (λ (l : List ℕ). a_term (rule.Selected e (term_at all first.0) (terms_at all l))) same ∙ ap (λ (l : List TermId). a_term (extreme_at e all l)) (sym are);
        below = (both.0, subst (AllBelow (length all)) (sym same) both.1);
        right = tt;
      }

  pub element_node : (table : TableId) (ids : List TermId) (list : Vec ℕ Global) → list.items ≡ term_ids ids → table.0 < length all → AllBelow (length all) (term_ids ids)
      → IsNodeFor root all (a_term (rule.Element (table_at all table.0) (terms_at all (term_ids ids)))) (node.Element table.0 list)
  element_node table ids list same there are = record {
    is = ap (λ (l : List ℕ). a_term (rule.Element (table_at all table.0) (terms_at all l))) same;
    below = (there, subst (AllBelow (length all)) (sym same) are);
    right = tt;
  }

  pub all_node : (ids : List CondId) (list : Vec ℕ Global) → list.items ≡ cond_ids ids → AllBelow (length all) (cond_ids ids)
      → IsNodeFor root all (a_cond (rule.All (conds_at all (cond_ids ids)))) (node.All list)
  all_node ids list same there = record {
    is = ap (λ (l : List ℕ). a_cond (rule.All (conds_at all l))) same;
    below = subst (AllBelow (length all)) (sym same) there;
    right = tt;
  }

  pub any_node : (ids : List CondId) (list : Vec ℕ Global) → list.items ≡ cond_ids ids → AllBelow (length all) (cond_ids ids)
      → IsNodeFor root all (a_cond (rule.Any (conds_at all (cond_ids ids)))) (node.Any list)
  any_node ids list same there = record {
    is = ap (λ (l : List ℕ). a_cond (rule.Any (conds_at all l))) same;
    below = subst (AllBelow (length all)) (sym same) there;
    right = tt;
  }

  pub different_node : (ids : List TermId) (list : Vec ℕ Global) → list.items ≡ term_ids ids → AllBelow (length all) (term_ids ids)
      → IsNodeFor root all (a_cond (rule.AllDifferent (terms_at all (term_ids ids)))) (node.AllDifferent list)
  different_node ids list same there = record {
    is = ap (λ (l : List ℕ). a_cond (rule.AllDifferent (terms_at all l))) same;
    below = subst (AllBelow (length all)) (sym same) there;
    right = tt;
  }

  pub cumulative_node : (ids : List (TermId × TermId × TermId)) (capacity : TermId) (list : Vec Task Global) → list.items ≡ task_ids ids → TasksBelow (length all) (task_ids ids)
      → capacity.0 < length all → IsNodeFor root all (a_cond (rule.Cumulative (tasks_at all (task_ids ids)) (term_at all capacity.0))) (node.Cumulative list capacity.0)
  cumulative_node ids capacity list same are there = record {
    is = ap (λ (l : List Task). a_cond (rule.Cumulative (tasks_at all l) (term_at all capacity.0))) same;
    below = (subst (TasksBelow (length all)) (sym same) are, there);
    right = tt;
  }

-- A node over proper operands is proper.

module _ (root : Box) (items : List Item) (all : IsBuilt root items) where
  proper : (id : ℕ) → IsProper (term_at (things items) id)
  proper id = (small_term root items id all).proper

  proper_node : (n : Node) → IsProper (term_in (thing_of (things items) n)) × IsProperCond (cond_in (thing_of (things items) n))
  proper_node (node.Constant z) = (tt, tt)
  proper_node (node.Cell cell) = (tt, tt)
  proper_node (node.Sum parts) = (parts_proper root items parts.items all, tt)
  proper_node (node.Product a b) = ((proper a, proper b), tt)
  proper_node (node.Operation op a) = (proper a, tt)
  proper_node (node.Extreme e first later) =
      ((proper first, terms_proper root items later.items all), tt)
  proper_node (node.Element table at) = ((table_proper root items table all, terms_proper root items at.items all), tt)
  proper_node (node.Number c) = (proper_at root items c all, tt)
  proper_node (node.Compare c) = (tt, (proper c.left, proper c.right))
  proper_node (node.Not c) = (tt, proper_at root items c all)
  proper_node (node.All conds) = (tt, propers_at root items conds.items all)
  proper_node (node.Any conds) = (tt, propers_at root items conds.items all)
  proper_node (node.Implies a c) = (tt, (proper_at root items a all, proper_at root items c all))
  proper_node (node.AllDifferent terms) = (tt, terms_proper root items terms.items all)
  proper_node (node.Cumulative tasks capacity) = (tt, (tasks_proper root items tasks.items all, proper capacity))
  proper_node (node.Table t) = (tt, tt)

  pub is_new : (n : Node) (f : own.Facts) → IsBelow (length items) n → IsRight root (things items) n → IsTable (table_in (thing_of (things items) n)) → kept f ≡ facts_of root (thing_of (things items) n)
      → size root (term_in (thing_of (things items) n)) ≤ 2 ^ 40 → IsNew root items (record { node = n; facts = f })
  is_new n f below right table is small =
      let proper_parts = proper_node n in
      record {
        below = below;
        kept = is;
        sound = record { term = record { proper = proper_parts.0; small = small }; cond = proper_parts.1; table = table };
        right = right;
      }

pub no_table_new : (table : rule.Table) → table ≡ no_table → IsTable table
no_table_new table none = subst IsTable (sym none) no_table_is

pub below_items : (items : List Item) (n : Node) → IsBelow (length (things items)) n → IsBelow (length items) n
below_items items n below = subst (λ (count : ℕ). IsBelow count n) (length_things items) below

-- A constant that is found stands.

module _ (root : Box) (items : List Item) (id : ℕ) (item : Item) (z : ℤ) (at : IsAt root (things items) id item) (is : item.node ≡ node.Constant z) where
  is_constant : thing_of (things items) item.node ≡ a_term (rule.Constant z)
  is_constant = ap (thing_of (things items)) is

  pub constant_stands : id < length items → Stands (things items) id (a_term (rule.Constant z))
  constant_stands there = record { exists = omega (arith, there, length_things items); is = at.thing ∙ is_constant }

  pub constant_small : size root (rule.Constant z) ≤ 2 ^ 40
  constant_small = subst (λ (x : Thing). size root (term_in x) ≤ 2 ^ 40) is_constant at.sound.term.small

-- What adding says.

pub grows_added : (before after : List Thing) (id : ℕ) (thing : Thing) → IsAdded before after id thing → Grows before after
grows_added before after id thing added = record {
  more = omega (arith, ap length added.added, length-append before (thing ∷ []));
  same = λ i below. ap (λ (ts : List Thing). thing_at ts i) added.added ∙ stays before thing i below;
}

added_stands : (before after : List Thing) (id : ℕ) (thing : Thing) → IsAdded before after id thing → Stands after id thing
added_stands before after id thing added = record {
  exists = omega (arith, added.number, ap length added.added, length-append before (thing ∷ []));
  is = ap (λ (ts : List Thing). thing_at ts id) added.added ∙ ap (thing_at (before ++ thing ∷ [])) added.number ∙ last_is before thing;
}

pub term_added : (root : Box) (before after : List Thing) (t : rule.Term) (thing : Thing) (new : TermId) → thing ≡ a_term t → IsAdded before after new.0 thing → size root (term_in thing) ≤ 2 ^ 40
    → AddsTerm root before after t (Ok new)
term_added root before after t thing new is added small = record {
  grows = grows_added before after new.0 thing added;
  stands = subst (Stands after new.0) is (added_stands before after new.0 thing added);
  most = inr (added.added ∙ ap (λ (x : Thing). before ++ x ∷ []) is);
  measured = subst (λ (x : Thing). size root (term_in x) ≤ 2 ^ 40) is small;
  err = tt;
}
