-- What the steps of a walk over an expression say of a work. For proofs alone.
use Rattle.std.specs.Prelude.{◌≡◌, ◌<◌, ℕ, Bool, List, [], ◌∷◌, ◌++◌, None, length, Result, Ok, Err}
use Rattle.std.specs.declared.alloc.Global.{Global}
use Rattle.std.specs.declared.vec.Vec.{Vec}
use Rattle.sopl_base.specs.declared.fault.Fault.{Fault}
use Rattle.box_problem.specs.Box.{Box}
use Rattle.term_language.specs.Terms as c
use Rattle.term_language.specs.Terms.{Term, Terms, Parts, Cond, Conds, Tasks}
use Rattle.compile_counts.specs.Walked.{IsWalked}
use Rattle.compile_laws.specs.Instances.{TaskTerms}
use Rattle.compile_names.specs.declared.setting.Scenarios.{Scenarios}
use Rattle.compile_laws.specs.Measured.{IsSizeFault, first_large}
use Rattle.compile_laws.specs.Subterms.{subterms, all_subterms, part_subterms, condition_subterms, all_condition_subterms, task_subterms}
use Rattle.sopl_scen.specs.Layout.{count_in}
use Rattle.compile_scene.specs.Scenes.{root_in}
use Rattle.compile_scene.specs.Works.{Extends, Stands, things_of}
use Rattle.compile_scene.specs.declared.scene.NumberedScenario.{NumberedScenario}
use Rattle.compile_scene.specs.declared.work.Lowering.{Lowering}
use Rattle.sopl_ast.specs.Known as place
use Rattle.sopl_ast.specs.Tree.{Tree}
use Rattle.sopl_term.specs.Built.{IsBuilding, cond_ids, signed_of, task_ids, term_ids}
use Rattle.term_nodes.specs.Built.{AllBelow, PartsBelow, TasksBelow}
use Rattle.term_nodes.specs.Things.{Thing, a_cond, a_term, conds_at, parts_at, tasks_at, term_at, terms_at}
use Rattle.term_store.specs.Additions.{new_cond, new_term}
use Rattle.term_store.specs.declared.additions.NewCond.{NewCond}
use Rattle.term_store.specs.declared.additions.NewTerm.{NewTerm}
use Rattle.term_store.specs.declared.ids.CondId.{CondId}
use Rattle.term_store.specs.declared.ids.TermId.{TermId}
use Rattle.unfold_constants.specs.declared.constant_scope.ConstantScope.{ConstantScope}
use Rattle.unfold_tables.specs.Tables.{table_known}
use Rattle.compile_exprs.specs.Over.{IsOver}

-- a scenario that there is, and a place in its text
pub record IsPlaced (scene : NumberedScenario) (known : ConstantScope) : Type 0 where
  pub exists : scene.scenario < count_in scene.setting.now.tree.now
  pub table : IsOver scene.setting.now known

-- there are terms of these numbers in a work that is being built
pub record AreThere (work : Lowering) (ids : List TermId) : Type 0 where
  pub building : IsBuilding work.builder
  pub exist : AllBelow (length (things_of work)) (term_ids ids)

-- a place in a text at which an expression passes, and one at which a task does
abbrev pub IsBody : Scenarios → Tree → place.Known → Type 0
IsBody setting e here = (here.constants ≡ (table_known setting.table.now).constants) × IsWalked None here e

abbrev pub IsTaskBody : Scenarios → Tree → Tree → Tree → place.Known → Type 0
IsTaskBody setting start duration demand here =
    (here.constants ≡ (table_known setting.table.now).constants) × (IsWalked None here start × IsWalked None here duration × IsWalked None here demand)

-- a task by the numbers of its terms: the numbers, its terms, and the terms in these
abbrev pub numbers_of : TermId × TermId × TermId → List ℕ
numbers_of id = id.0.0 ∷ id.1.0 ∷ id.2.0 ∷ []

abbrev pub task_at : List Thing → TermId × TermId × TermId → TaskTerms
task_at things id = record { start = term_at things id.0.0; duration = term_at things id.1.0; demand = term_at things id.2.0 }

abbrev pub subterms_of_task : TaskTerms → List Term
subterms_of_task x = subterms x.start ++ (subterms x.duration ++ subterms x.demand)

-- a thing was added, and none of these terms is too large
pub record IsMade (setting : Scenarios) (before after : Lowering) (id : ℕ) (thing : Thing) (sizes : List Term) : Type 0 where
  pub extends : Extends setting before after
  pub stands : Stands (things_of after) id thing
  pub small : first_large (root_in setting) sizes ≡ None

-- a fault that the sizes of these terms give
pub record SizesFail (root : Box) (sizes : List Term) (fault : Fault) : Type 0 where
  pub large : IsSizeFault root sizes fault

-- a call made this, or one of these terms is too large
abbrev pub Makes : {A : Type 0} → (A → Type 0) → Box → List Term → Result A Fault → Type 0
Makes IsIt root sizes (Ok x) = IsIt x
Makes IsIt root sizes (Err fault) = SizesFail root sizes fault

-- a term was added
abbrev pub MakesTerm : Scenarios → Lowering → Lowering → Term → Result TermId Fault → Type 0
MakesTerm setting before after t r =
    Makes (λ (id : TermId). IsMade setting before after id.0 (a_term t) (subterms t)) (root_in setting) (subterms t) r

abbrev pub MakesCond : Scenarios → Lowering → Lowering → Cond → Result CondId Fault → Type 0
MakesCond setting before after t r =
    Makes (λ (id : CondId). IsMade setting before after id.0 (a_cond t) (condition_subterms t)) (root_in setting) (condition_subterms t) r

-- terms were added
pub record AreTerms (setting : Scenarios) (before after : Lowering) (ids : List TermId) (ts : Terms) : Type 0 where
  pub extends : Extends setting before after
  pub exist : AllBelow (length (things_of after)) (term_ids ids)
  pub are : terms_at (things_of after) (term_ids ids) ≡ ts
  pub small : first_large (root_in setting) (all_subterms ts) ≡ None

pub record AreConds (setting : Scenarios) (before after : Lowering) (ids : List CondId) (ts : Conds) : Type 0 where
  pub extends : Extends setting before after
  pub exist : AllBelow (length (things_of after)) (cond_ids ids)
  pub are : conds_at (things_of after) (cond_ids ids) ≡ ts
  pub small : first_large (root_in setting) (all_condition_subterms ts) ≡ None

pub record AreParts (setting : Scenarios) (before after : Lowering) (ids : List (Bool × TermId)) (ts : Parts) : Type 0 where
  pub extends : Extends setting before after
  pub exist : PartsBelow (length (things_of after)) (signed_of ids)
  pub are : parts_at (things_of after) (signed_of ids) ≡ ts
  pub small : first_large (root_in setting) (part_subterms ts) ≡ None

-- a task was added, and tasks were
pub record IsTask (setting : Scenarios) (before after : Lowering) (id : TermId × TermId × TermId) (x : TaskTerms) : Type 0 where
  pub extends : Extends setting before after
  pub exist : AllBelow (length (things_of after)) (numbers_of id)
  pub is : task_at (things_of after) id ≡ x
  pub small : first_large (root_in setting) (subterms_of_task x) ≡ None

pub record AreTasks (setting : Scenarios) (before after : Lowering) (ids : List (TermId × TermId × TermId)) (ts : Tasks) : Type 0 where
  pub extends : Extends setting before after
  pub exist : TasksBelow (length (things_of after)) (task_ids ids)
  pub are : tasks_at (things_of after) (task_ids ids) ≡ ts
  pub small : first_large (root_in setting) (task_subterms ts) ≡ None

-- a call does so
abbrev pub MakesTerms : Scenarios → Lowering → Lowering → Terms → Result (Vec TermId Global) Fault → Type 0
MakesTerms setting before after ts r =
    Makes (λ (ids : Vec TermId Global). AreTerms setting before after ids.items ts) (root_in setting) (all_subterms ts) r

abbrev pub MakesConds : Scenarios → Lowering → Lowering → Conds → Result (Vec CondId Global) Fault → Type 0
MakesConds setting before after ts r =
    Makes (λ (ids : Vec CondId Global). AreConds setting before after ids.items ts) (root_in setting) (all_condition_subterms ts) r

abbrev pub MakesParts : Scenarios → Lowering → Lowering → Parts → Result (Vec (Bool × TermId) Global) Fault → Type 0
MakesParts setting before after ts r =
    Makes (λ (ids : Vec (Bool × TermId) Global). AreParts setting before after ids.items ts) (root_in setting) (part_subterms ts) r

abbrev pub MakesTask : Scenarios → Lowering → Lowering → TaskTerms → Result (TermId × TermId × TermId) Fault → Type 0
MakesTask setting before after x r =
    Makes (λ (id : TermId × TermId × TermId). IsTask setting before after id x) (root_in setting) (subterms_of_task x) r

abbrev pub MakesTasks : Scenarios → Lowering → Lowering → Tasks → Result (Vec (TermId × TermId × TermId) Global) Fault → Type 0
MakesTasks setting before after ts r =
    Makes (λ (ids : Vec (TermId × TermId × TermId) Global). AreTasks setting before after ids.items ts) (root_in setting) (task_subterms ts) r

-- a term by its number, which is not too large, nor is one in it
pub record IsOperand (setting : Scenarios) (work : Lowering) (id : ℕ) : Type 0 where
  pub stands : Stands (things_of work) id (a_term (term_at (things_of work) id))
  pub small : first_large (root_in setting) (subterms (term_at (things_of work) id)) ≡ None

-- the number expressions that stand in the operands of a term
abbrev pub operand_subterms : Term → List Term
operand_subterms (c.Constant z) = []
operand_subterms (c.Cell cell) = []
operand_subterms (c.Sum parts) = part_subterms parts
operand_subterms (c.Product a b) = subterms a ++ subterms b
operand_subterms (c.Made how a) = subterms a
operand_subterms (c.Selected which a later) = subterms a ++ all_subterms later
operand_subterms (c.Element table indices) = all_subterms indices
operand_subterms (c.Number cond) = condition_subterms cond

-- the operands of a term were added, and none of the terms in them is too large; the same of a condition's
pub record HasOperands (setting : Scenarios) (before work : Lowering) (new : NewTerm) (t : Term) : Type 0 where
  pub extends : Extends setting before work
  pub is : new_term (things_of work) new ≡ t
  pub small : first_large (root_in setting) (operand_subterms t) ≡ None

pub record HasCondOperands (setting : Scenarios) (before work : Lowering) (new : NewCond) (t : Cond) : Type 0 where
  pub extends : Extends setting before work
  pub is : new_cond (things_of work) new ≡ t
  pub small : first_large (root_in setting) (condition_subterms t) ≡ None
