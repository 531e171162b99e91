-- What the calls of a builder do.
use Rattle.std.specs.Prelude.{◌≡◌, ◌≤◌, ◌-◌, ◌≤ℤ◌, ℕ, ℤ, pos, negsuc, Bool, List, [], ◌∷◌, ◌++◌, length, map, Option, None, Some, Result}
use Rattle.std.specs.List.{range_with_len}
use Rattle.term_language.specs.Terms as rule
use Rattle.sopl_base.specs.declared.interval.Interval.{Interval}
use Rattle.term_store.specs.Stores.{IsSoundStore, all, root_of}
use Rattle.term_store.specs.declared.store.TermStore.{TermStore}
use Rattle.sopl_base.specs.declared.direction.Direction.{Direction}
use Rattle.sopl_base.specs.declared.direction.Direction.TheVariants.{Minimize, Maximize, Nothing}
use Rattle.term_problem.specs.Problems.{GoalTerms, ProblemTerms}
use Rattle.term_nodes.specs.Things.{Thing, a_term, cond_at, term_at, thing_at}
use Rattle.term_store.specs.declared.ids.TermId.{TermId}
use Rattle.term_store.specs.declared.ids.CondId.{CondId}
use Rattle.term_store.specs.declared.ids.TableId.{TableId}
use Rattle.sopl_term.specs.declared.builder.Builder.{Builder}
use Rattle.box_problem.specs.Box.{Box}
use Rattle.term_program.specs.Drafts.{IsDraft, draft_problem, draft_root, draft_things}
use Rattle.std.specs.declared.alloc.AllocError.{AllocError}
use Rattle.sopl_base.specs.declared.fault.Fault.{Fault}
use Rattle.sopl_base.specs.declared.limits.TheConstants as largest
use Rattle.term_store.specs.Additions.{AddsCond, AddsTable, AddsTerm, MayAddCond, MayAddTerm, new_cond, new_term}
use Rattle.term_store.specs.declared.additions.NewCond.{NewCond}
use Rattle.term_store.specs.declared.additions.NewTerm.{NewTerm}
pub use Rattle.term_store.specs.Additions.{Grows, cond_ids, signed_of, task_ids, term_ids}

-- what stands at each number
abbrev pub built : Builder → List Thing
built b = draft_things b.draft

-- the box of all points, the constraints so far, and what the objective is to be
abbrev pub root_built : Builder → Box
root_built b = draft_root b.draft

abbrev pub problem_built : Builder → ProblemTerms
problem_built b = draft_problem b.draft

abbrev pub asked_direction : Builder → Direction
asked_direction b = b.direction

abbrev pub asked_worst : Builder → Bool
asked_worst b = b.worst

-- a program that is being built
abbrev pub IsBuilding : Builder → Type 0
IsBuilding b = IsDraft b.draft

-- the ends of a cell's interval lie within 2^40
pub record IsNear (i : Interval) : Type 0 where
  pub low : negsuc (largest.TERM_SIZE - 1) ≤ℤ i.lo
  pub high : i.hi ≤ℤ pos largest.TERM_SIZE

-- so many cells as terms
abbrev pub cell_terms : ℕ → List Thing
cell_terms count = map (λ (cell : ℕ). a_term (rule.Cell cell)) (range_with_len 0 count)

-- a store to which so many cells are added, with their numbers
pub record HasCells (before after : TermStore) (ids : List ℕ) (count : ℕ) : Type 0 where
  pub sound : IsSoundStore after
  pub root : root_of after ≡ root_of before
  pub things : all after ≡ cell_terms count
  pub nodes : ids ≡ map (λ (cell : ℕ). cell) (range_with_len 0 count)

-- what was added before is as it was: what each number stands for, the root, the constraints, and what the objective is to be
pub record IsKept (before after : Builder) : Type 0 where
  pub building : IsBuilding after
  pub root : root_built after ≡ root_built before
  pub problem : problem_built after ≡ problem_built before
  pub grows : Grows (built before) (built after)
  pub direction : asked_direction after ≡ asked_direction before
  pub worst : asked_worst after ≡ asked_worst before

-- nothing but constraints was added
pub record IsUnder (before after : Builder) : Type 0 where
  pub building : IsBuilding after
  pub root : root_built after ≡ root_built before
  pub things : built after ≡ built before
  pub direction : asked_direction after ≡ asked_direction before
  pub worst : asked_worst after ≡ asked_worst before

-- a term and a condition may be added, and were: so was an array
pub record CanAddTerm (b : Builder) (new : NewTerm) : Type 0 where
  pub building : IsBuilding b
  pub may : MayAddTerm (length (built b)) new

pub record CanAddCond (b : Builder) (new : NewCond) : Type 0 where
  pub building : IsBuilding b
  pub may : MayAddCond (length (built b)) new

pub record HasAddedTerm (before after : Builder) (new : NewTerm) (result : Result TermId Fault) : Type 0 where
  pub kept : IsKept before after
  pub adds : AddsTerm (root_built before) (built before) (built after) (new_term (built before) new) result

pub record HasAddedCond (before after : Builder) (new : NewCond) (result : Result CondId AllocError) : Type 0 where
  pub kept : IsKept before after
  pub adds : AddsCond (built before) (built after) (new_cond (built before) new) result

pub record HasAddedTable (before after : Builder) (table : rule.Table) (result : Result TableId AllocError) : Type 0 where
  pub kept : IsKept before after
  pub adds : AddsTable (built before) (built after) table result

-- the conditions of these numbers
abbrev pub conds_of : Builder → List CondId → List rule.Cond
conds_of b conds = map (cond_at (built b)) (cond_ids conds)

-- a problem with a hard constraint more, and with a chance constraint more
abbrev pub with_hard : ProblemTerms → List rule.Cond → ProblemTerms
with_hard terms conditions = record terms { hards = terms.hards ++ conditions ∷ [] }

abbrev pub with_chance : ProblemTerms → List rule.Cond → ℤ → ℤ → ProblemTerms
with_chance terms conditions p q = record terms { chances = terms.chances ++ record { conditions = conditions; p = p; q = q } ∷ [] }

-- the objective that is asked for: none without terms
abbrev pub goal_asked : Builder → List TermId → Option GoalTerms
goal_asked b [] = None
goal_asked b (first ∷ later) = Some (record { direction = b.direction; worst = b.worst; terms = map (term_at (built b)) (term_ids (first ∷ later)) })

-- the terms of an objective: one for each scenario where there is a direction, and none where there is none
abbrev pub FitsDirection : Direction → ℕ → List TermId → Type 0
FitsDirection Minimize scenarios terms = length terms ≡ scenarios
FitsDirection Maximize scenarios terms = length terms ≡ scenarios
FitsDirection Nothing scenarios terms = length terms ≡ 0

-- a number or a cell as an item of an array
abbrev pub item_of : Thing → rule.Item
item_of (a_term (rule.Constant z)) = rule.Fixed z
item_of (a_term (rule.Cell cell)) = rule.Free cell
item_of other = rule.Fixed (pos 0)

-- the array of these sets and of the numbers and cells at these numbers
abbrev pub table_of : List Thing → List (List ℤ) → List TermId → rule.Table
table_of things sets items = record { sets = sets; items = map (λ (id : TermId). item_of (thing_at things id.0)) items }
