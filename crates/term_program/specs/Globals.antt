-- The terms of `allDifferent` and of `cumulative`, as a list.
use Rattle.std.specs.Prelude.{◌≡◌, ◌<◌, ℕ, List, [], ◌∷◌, Option, length, IfSome, IfNone, Vec}
use Rattle.std.specs.Global.{Global}
use Rattle.std.specs.BTreeMap.{get}
use Rattle.std.specs.Ordering.{nat_cmp}
use Rattle.term_language.specs.Terms.{Terms, no_term, term, Cond, AllDifferent, Cumulative, Tasks, no_task, task}
use Rattle.term_nodes.specs.Built.{AllBelow, IsBelow}
use Rattle.term_nodes.specs.Things.{Thing, cond_at, cond_in, terms_at, thing_of}
use Rattle.term_nodes.specs.declared.nodes.Node.{Node}
use Rattle.term_nodes.specs.declared.nodes.Task.{Task}
use Rattle.term_program.specs.declared.globals.GlobalTerms.{GlobalTerms}
use Rattle.term_store.specs.declared.ids.TermId.{TermId}
pub use Rattle.term_store.specs.Additions.{term_ids}

-- the start, the length and the demand of each task, and others behind them
abbrev pub tasks_then : Tasks → Terms → Terms
tasks_then no_task others = others
tasks_then (task start duration demand tasks) others = term start (term duration (term demand (tasks_then tasks others)))

-- the terms of `allDifferent`, and of `cumulative` those of its tasks and then the capacity; of another condition none
abbrev pub global_terms : Cond → Terms
global_terms (AllDifferent terms) = terms
global_terms (Cumulative tasks capacity) = tasks_then tasks (term capacity no_term)
global_terms other = no_term

-- a list of just the terms of a condition, each of which exists
pub record ListsTerms (all : List Thing) (condition : Cond) (ids : List TermId) : Type 0 where
  pub terms : terms_at all (term_ids ids) ≡ global_terms condition
  pub exist : AllBelow (length all) (term_ids ids)

-- a list of just the terms of a node, whatever stands at their numbers
pub record ListsNode (node : Node) (ids : List TermId) : Type 0 where
  pub terms : (all : List Thing) → terms_at all (term_ids ids) ≡ global_terms (cond_in (thing_of all node))
  pub below : (id : ℕ) → IsBelow id node → AllBelow id (term_ids ids)

-- what stands of a task in a list
abbrev pub numbers_in : Task → List ℕ
numbers_in t = t.start ∷ t.duration ∷ t.demand ∷ []

-- what is kept of a number
abbrev pub terms_kept : GlobalTerms → ℕ → Option (Vec TermId Global)
terms_kept g id = get nat_cmp g.lists id

-- each list that is kept is the right one, and of the first conditions each that has terms has a list
pub record AreTermsOf (all : List Thing) (first : ℕ) (g : GlobalTerms) : Type 0 where
  pub kept : (id : ℕ) → IfSome (terms_kept g id) (λ terms. ListsTerms all (cond_at all id) terms.items)
  pub none : (id : ℕ) → id < first → IfNone (terms_kept g id) (global_terms (cond_at all id) ≡ no_term)
