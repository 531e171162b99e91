-- What may be added to a store, and what adding it says.
use Rattle.std.specs.Prelude.{◌≡◌, ◌⊎◌, ◌<◌, ◌≤◌, ℕ, pos, Bool, List, [], ◌∷◌, ◌++◌, length, map, Result, IfOk, OnErr}
use Rattle.std.specs.declared.alloc.AllocError.{AllocError}
use Rattle.box_problem.specs.Box.{Box}
use Rattle.sopl_base.specs.declared.fault.Fault.{Fault}
use Rattle.term_language.specs.Sizes.{size}
use Rattle.term_language.specs.Terms as rule
use Rattle.term_math.specs.Made.{IsPossible}
use Rattle.sopl_base.specs.declared.extreme.Extreme.{Extreme}
use Rattle.term_nodes.specs.Built.{AllBelow, IsBelow, IsRight, PartsBelow, TasksBelow}
use Rattle.term_nodes.specs.Things.{Thing, a_cond, a_table, a_term, cond_at, conds_at, parts_at, table_at, tasks_at, term_at, terms_at, thing_at, thing_of}
use Rattle.term_nodes.specs.declared.nodes.Node.{Node}
use Rattle.term_nodes.specs.declared.nodes.Signed.{Signed}
use Rattle.term_nodes.specs.declared.nodes.Task.{Task}
use Rattle.term_store.specs.Stores.{IsMeasured}
use Rattle.term_store.specs.declared.additions.NewCond.{NewCond}
use Rattle.term_store.specs.declared.additions.NewCond.TheVariants as cond
use Rattle.term_store.specs.declared.additions.NewTerm.{NewTerm}
use Rattle.term_store.specs.declared.additions.NewTerm.TheVariants as new
use Rattle.term_store.specs.declared.ids.CondId.{CondId}
use Rattle.term_store.specs.declared.ids.TableId.{TableId}
use Rattle.term_store.specs.declared.ids.TermId.{TermId}

-- the numbers of terms and of conditions, the parts of a sum, and tasks
abbrev pub term_ids : List TermId → List ℕ
term_ids ids = map (λ (id : TermId). id.0) ids

abbrev pub cond_ids : List CondId → List ℕ
cond_ids ids = map (λ (id : CondId). id.0) ids

abbrev pub signed_of : List (Bool × TermId) → List Signed
signed_of parts = map (λ (p : Bool × TermId). record { subtracted = p.0; term = p.1.0 }) parts

abbrev pub task_ids : List (TermId × TermId × TermId) → List Task
task_ids tasks = map (λ (t : TermId × TermId × TermId). record { start = t.0.0; duration = t.1.0; demand = t.2.0 }) tasks

-- the least or the greatest of several terms, of which there is at least one
abbrev pub extreme_at : Extreme → List Thing → List TermId → rule.Term
extreme_at e all [] = rule.Constant (pos 0)
extreme_at e all (first ∷ later) = rule.Selected e (term_at all first.0) (terms_at all (term_ids later))

-- the term and the condition that are added, by what stands at the numbers of their operands
abbrev pub new_term : List Thing → NewTerm → rule.Term
new_term all (new.Constant z) = rule.Constant z
new_term all (new.Cell cell) = rule.Cell cell
new_term all (new.Sum parts) = rule.Sum (parts_at all (signed_of parts.now))
new_term all (new.Product a b) = rule.Product (term_at all a.0) (term_at all b.0)
new_term all (new.Operation op a) = rule.Made op (term_at all a.0)
new_term all (new.Extreme e parts) = extreme_at e all parts.now
new_term all (new.Element table at) = rule.Element (table_at all table.0) (terms_at all (term_ids at.now))
new_term all (new.Number c) = rule.Number (cond_at all c.0)

abbrev pub new_cond : List Thing → NewCond → rule.Cond
new_cond all (cond.Compare op a b) = rule.Compare op (term_at all a.0) (term_at all b.0)
new_cond all (cond.Not c) = rule.Not (cond_at all c.0)
new_cond all (cond.All conds) = rule.All (conds_at all (cond_ids conds.now))
new_cond all (cond.Any conds) = rule.Any (conds_at all (cond_ids conds.now))
new_cond all (cond.Implies a c) = rule.Implies (cond_at all a.0) (cond_at all c.0)
new_cond all (cond.AllDifferent terms) = rule.AllDifferent (terms_at all (term_ids terms.now))
new_cond all (cond.Cumulative tasks capacity) = rule.Cumulative (tasks_at all (task_ids tasks.now)) (term_at all capacity.0)

-- their operands are among so many things, and a divisor can be computed with
abbrev pub MayAddTerm : ℕ → NewTerm → Type 0
MayAddTerm count (new.Constant z) = Unit {0}
MayAddTerm count (new.Cell cell) = Unit {0}
MayAddTerm count (new.Sum parts) = PartsBelow count (signed_of parts.now)
MayAddTerm count (new.Product a b) = (a.0 < count) × (b.0 < count)
MayAddTerm count (new.Operation op a) = IsPossible op × (a.0 < count)
MayAddTerm count (new.Extreme e parts) = (1 ≤ length parts.now) × AllBelow count (term_ids parts.now)
MayAddTerm count (new.Element table at) = (table.0 < count) × AllBelow count (term_ids at.now)
MayAddTerm count (new.Number c) = c.0 < count

abbrev pub MayAddCond : ℕ → NewCond → Type 0
MayAddCond count (cond.Compare op a b) = (a.0 < count) × (b.0 < count)
MayAddCond count (cond.Not c) = c.0 < count
MayAddCond count (cond.All conds) = AllBelow count (cond_ids conds.now)
MayAddCond count (cond.Any conds) = AllBelow count (cond_ids conds.now)
MayAddCond count (cond.Implies a c) = (a.0 < count) × (c.0 < count)
MayAddCond count (cond.AllDifferent terms) = AllBelow count (term_ids terms.now)
MayAddCond count (cond.Cumulative tasks capacity) = TasksBelow count (task_ids tasks.now) × (capacity.0 < count)

-- a node that stands for this, if it is added
pub record IsNodeFor (root : Box) (all : List Thing) (thing : Thing) (node : Node) : Type 0 where
  pub is : thing_of all node ≡ thing
  pub below : IsBelow (length all) node
  pub right : IsRight root all node

-- no fewer things, and each number stands for the same
pub record Grows (before after : List Thing) : Type 0 where
  pub more : length before ≤ length after
  pub same : (id : ℕ) → id < length before → thing_at after id ≡ thing_at before id

-- a number exists, and stands for a thing
pub record Stands (things : List Thing) (id : ℕ) (thing : Thing) : Type 0 where
  pub exists : id < length things
  pub is : thing_at things id ≡ thing

-- each number stands for what it stood for, and that of the term, the condition or the array for this; nothing but this was added, and nothing at all
-- where it was there before. A term has a size of at most 2^40; it is refused for a greater one, or memory runs out, and then nothing was added
pub record AddsTerm (root : Box) (before after : List Thing) (t : rule.Term) (result : Result TermId Fault) : Type 0 where
  pub grows : Grows before after
  pub stands : IfOk result (λ (id : TermId). Stands after id.0 (a_term t))
  pub most : (after ≡ before) ⊎ (after ≡ before ++ a_term t ∷ [])
  pub measured : IsMeasured (size root t) result
  pub err : OnErr result (after ≡ before)

pub record AddsCond (before after : List Thing) (c : rule.Cond) (result : Result CondId AllocError) : Type 0 where
  pub grows : Grows before after
  pub stands : IfOk result (λ (id : CondId). Stands after id.0 (a_cond c))
  pub most : (after ≡ before) ⊎ (after ≡ before ++ a_cond c ∷ [])
  pub err : OnErr result (after ≡ before)

pub record AddsTable (before after : List Thing) (table : rule.Table) (result : Result TableId AllocError) : Type 0 where
  pub grows : Grows before after
  pub stands : IfOk result (λ (id : TableId). Stands after id.0 (a_table table))
  pub most : (after ≡ before) ⊎ (after ≡ before ++ a_table table ∷ [])
  pub err : OnErr result (after ≡ before)
