-- What is made of what was added.
use Rattle.std.proofs.Common.{◌≡◌, ◌∙◌, refl, ap, ap₂, sym, subst, arith, inl, inr, ℕ, ◌<◌, ◌≤◌, ◌^◌, List, [], ◌∷◌, ◌++◌, length, Some, option_map, Result, Ok, Err, IfOk, OnOk}
use Rattle.std.proofs.lemmas.List.{append_assoc}
use Rattle.sopl_base.specs.declared.fault.Fault.{Fault}
use Rattle.sopl_base.specs.declared.fault.Fault.TheVariants.{Limit}
use Rattle.term_language.specs.Sizes.{size}
use Rattle.box_problem.specs.Box.{Box}
use Rattle.term_language.specs.Terms as c
use Rattle.term_language.specs.Terms.{Term, Terms, Cond, Tasks}
use Rattle.compile_laws.specs.Instances.{TaskTerms}
use Rattle.compile_names.specs.declared.setting.Scenarios.{Scenarios}
use Rattle.compile_laws.specs.Measured.{Measures, first_large, large_excess}
use Rattle.compile_laws.specs.Subterms.{all_subterms, condition_subterms, subterms}
use Rattle.compile_laws.proofs.Measuring.{at_once, none_large}
use Rattle.compile_scene.specs.Scenes.{root_in}
use Rattle.compile_scene.specs.Works.{IsReady, Stands, things_of}
use Rattle.compile_scene.specs.declared.work.Lowering.{Lowering}
use Rattle.compile_scene.proofs.Growing.{extended, extends_not, extends_twice, grows_twice, stands_grows}
use Rattle.sopl_term.specs.Built.{Grows, task_ids, HasAddedCond, HasAddedTerm, built, root_built}
use Rattle.sopl_term.specs.declared.builder.Builder.{Builder}
use Rattle.term_nodes.specs.Built.{AllBelow, TasksBelow}
use Rattle.term_nodes.specs.Things.{Thing, a_cond, a_term, cond_at, cond_in, tasks_at, term_at, term_in, terms_at, thing_at}
use Rattle.term_nodes.specs.declared.nodes.Task.{Task}
use Rattle.term_store.specs.Additions.{new_term}
use Rattle.term_store.specs.Stores.{IsMeasured}
use Rattle.sopl_base.specs.declared.comparison.CmpOp.{CmpOp}
use Rattle.term_store.specs.declared.additions.NewCond.{NewCond}
use Rattle.term_store.specs.declared.additions.NewCond.TheVariants as new
use Rattle.term_store.specs.declared.additions.NewTerm.{NewTerm}
use Rattle.term_store.specs.declared.ids.CondId.{CondId}
use Rattle.term_store.specs.declared.ids.TermId.{TermId}
use Rattle.compile_exprs.specs.Made.{SizesFail, AreTasks, AreTerms, AreThere, HasCondOperands, HasOperands, IsMade, IsOperand, IsTask, Makes, MakesTerm, operand_subterms}
use Rattle.compile_exprs.proofs.Sizes.{fails_first, fails_later, AreSmall, both_small}

-- Tasks stay where more is added.

pub later_tasks : (before after : List Thing) (ids : List Task) → Grows before after → TasksBelow (length before) ids → tasks_at after ids ≡ tasks_at before ids
later_tasks before after [] grows below = refl
later_tasks before after (t ∷ ids) grows below =
    ap (λ x. c.task (term_in x) (term_at after t.duration) (term_at after t.demand) (tasks_at after ids)) (grows.same t.start below.0.0)
    ∙ (ap (λ x. c.task (term_at before t.start) (term_in x) (term_at after t.demand) (tasks_at after ids)) (grows.same t.duration below.0.1.0)
    ∙ (ap (λ x. c.task (term_at before t.start) (term_at before t.duration) (term_in x) (tasks_at after ids)) (grows.same t.demand below.0.1.1)
    ∙ ap (c.task (term_at before t.start) (term_at before t.duration) (term_at before t.demand)) (later_tasks before after ids grows below.1)))

pub later_tasks_below : (n m : ℕ) (ids : List Task) → n ≤ m → TasksBelow n ids → TasksBelow m ids
later_tasks_below n m [] more below = tt
later_tasks_below n m (t ∷ ids) more below =
    ((omega (arith, below.0.0, more), (omega (arith, below.0.1.0, more), omega (arith, below.0.1.1, more))), later_tasks_below n m ids more below.1)

-- What was added may be used.

pub are_there : (setting : Scenarios) (before after : Lowering) (ids : List TermId) (ts : Terms) → AreTerms setting before after ids ts → AreThere after ids
are_there setting before after ids ts are = record { building = are.extends.ready.building; exist = are.exist }

-- What a number stands for.

pub term_is : (things : List Thing) (id : ℕ) (t : Term) → Stands things id (a_term t) → term_at things id ≡ t
term_is things id t stands = ap term_in stands.is

pub cond_is : (things : List Thing) (id : ℕ) (t : Cond) → Stands things id (a_cond t) → cond_at things id ≡ t
cond_is things id t stands = ap cond_in stands.is

-- as what it is looked up to
pub stands_as : (things : List Thing) (id : ℕ) (t : Term) → Stands things id (a_term t) → Stands things id (a_term (term_at things id))
stands_as things id t stands = subst (λ x. Stands things id (a_term x)) (sym (term_is things id t stands)) stands

pub operand_made : (setting : Scenarios) (before after : Lowering) (id : ℕ) (t : Term) → IsMade setting before after id (a_term t) (subterms t) → IsOperand setting after id
operand_made setting before after id t made = record {
  stands = stands_as (things_of after) id t made.stands;
  small = subst (λ x. AreSmall (root_in setting) (subterms x)) (sym (term_is (things_of after) id t made.stands)) made.small;
}

-- what stands in a work stands where more was added
pub later_is : (before after : List Thing) (id : ℕ) (t : Term) → Grows before after → Stands before id (a_term t) → term_at after id ≡ t
later_is before after id t grows stands = term_is after id t (stands_grows before after id (a_term t) grows stands)

pub later_cond_is : (before after : List Thing) (id : ℕ) (t : Cond) → Grows before after → Stands before id (a_cond t) → cond_at after id ≡ t
later_cond_is before after id t grows stands = cond_is after id t (stands_grows before after id (a_cond t) grows stands)

pub later_terms : (before after : List Thing) (ids : List ℕ) → Grows before after → AllBelow (length before) ids → terms_at after ids ≡ terms_at before ids
later_terms before after [] grows below = refl
later_terms before after (id ∷ ids) grows below = ap₂ (λ x xs. c.term x xs) (ap term_in (grows.same id below.0)) (later_terms before after ids grows below.1)

-- A term is added to its operands, none of which is too large, and so is a condition.

measured_once : (root : Box) (t : Term) (r : Result TermId Fault) → IsMeasured (size root t) r → Measures root (t ∷ []) r
measured_once root t (Ok id) small = none_large root (t ∷ []) (small, tt)
measured_once root t (Err fault) (inl memory) = inl memory
measured_once root t (Err fault) (inr large) = inr (ap (option_map (λ n. Limit (large_excess n))) (at_once root t [] (size root t) refl large.1) ∙ ap Some (sym large.0))

one_measured : (setting : Scenarios) (work : Lowering) (t : Term) (r : Result TermId Fault) → IsMeasured (size (root_built work.builder) t) r → IsReady setting work → Measures (root_in setting) (t ∷ []) r
one_measured setting work t r measured ready = subst (λ root. Measures root (t ∷ []) r) ready.root (measured_once (root_built work.builder) t r measured)

-- a term behind those in its operands
operands_all : (t : Term) → subterms t ≡ operand_subterms t ++ t ∷ []
operands_all (c.Constant z) = refl
operands_all (c.Cell cell) = refl
operands_all (c.Sum parts) = refl
operands_all (c.Product a b) = sym (append_assoc (subterms a) (subterms b) (c.Product a b ∷ []))
operands_all (c.Made how a) = refl
operands_all (c.Selected which a later) = sym (append_assoc (subterms a) (all_subterms later) (c.Selected which a later ∷ []))
operands_all (c.Element table indices) = refl
operands_all (c.Number cond) = refl

pub term_made : (setting : Scenarios) (before mid : Lowering) (b : Builder) (new : NewTerm) (t : Term) (r : Result TermId Fault) → HasOperands setting before mid new t → HasAddedTerm mid.builder b new r
    → MakesTerm setting before (record mid { builder = b }) t r
term_made setting before mid b new t (Ok id) o added = record {
  extends = extends_twice setting before mid (record mid { builder = b }) o.extends (extended setting mid b added.kept o.extends.ready);
  stands = subst (λ x. Stands (built b) id.0 (a_term x)) o.is added.adds.stands;
  small = ap (first_large (root_in setting)) (operands_all t)
      ∙ both_small (root_in setting) (operand_subterms t) (t ∷ []) o.small
      (subst (λ x. AreSmall (root_in setting) (x ∷ [])) o.is (one_measured setting mid (new_term (things_of mid) new) (Ok id) added.adds.measured o.extends.ready));
}
term_made setting before mid b new t (Err fault) o added =
    subst (λ l. SizesFail (root_in setting) l fault) (sym (operands_all t))
    (fails_later (root_in setting) (operand_subterms t) (t ∷ []) fault o.small
    (subst (λ x. SizesFail (root_in setting) (x ∷ []) fault) o.is (record { large = one_measured setting mid (new_term (things_of mid) new) (Err fault) added.adds.measured o.extends.ready })))

pub cond_made : (setting : Scenarios) (before mid : Lowering) (b : Builder) (new : NewCond) (t : Cond) (id : CondId) → HasCondOperands setting before mid new t → HasAddedCond mid.builder b new (Ok id)
    → IsMade setting before (record mid { builder = b }) id.0 (a_cond t) (condition_subterms t)
cond_made setting before mid b new t id o added = record {
  extends = extends_twice setting before mid (record mid { builder = b }) o.extends (extended setting mid b added.kept o.extends.ready);
  stands = subst (λ x. Stands (built b) id.0 (a_cond x)) o.is added.adds.stands;
  small = o.small;
}

-- Which operands were added: none, one term or one condition, two, or the elements of a list.

pub no_operands : (setting : Scenarios) (work : Lowering) (new : NewTerm) (t : Term) → IsReady setting work → new_term (things_of work) new ≡ t → operand_subterms t ≡ [] → HasOperands setting work work new t
no_operands setting work new t ready is none = record { extends = extends_not setting work ready; is = is; small = ap (first_large (root_in setting)) none }

pub one_operand : (setting : Scenarios) (before work : Lowering) (id : ℕ) (thing : Thing) (sizes : List Term) (new : NewTerm) (t : Term) → IsMade setting before work id thing sizes
    → new_term (things_of work) new ≡ t → operand_subterms t ≡ sizes → HasOperands setting before work new t
one_operand setting before work id thing sizes new t made is all = record { extends = made.extends; is = is; small = ap (first_large (root_in setting)) all ∙ made.small }

pub two_operands : (setting : Scenarios) (work after : Lowering) (first second : ℕ) (b : Term) (new : NewTerm) (t : Term) → IsOperand setting work first
    → IsMade setting work after second (a_term b) (subterms b) → new_term (things_of after) new ≡ t → operand_subterms t ≡ subterms (term_at (things_of work) first) ++ subterms b
    → HasOperands setting work after new t
two_operands setting work after first second b new t operand made is all = record {
  extends = made.extends;
  is = is;
  small = ap (first_large (root_in setting)) all ∙ both_small (root_in setting) (subterms (term_at (things_of work) first)) (subterms b) operand.small made.small;
}

-- one term that stood before
pub operated : (setting : Scenarios) (work : Lowering) (id : ℕ) (new : NewTerm) (t : Term) → IsReady setting work → IsOperand setting work id → new_term (things_of work) new ≡ t
    → operand_subterms t ≡ subterms (term_at (things_of work) id) → HasOperands setting work work new t
operated setting work id new t ready operand is all = record { extends = extends_not setting work ready; is = is; small = ap (first_large (root_in setting)) all ∙ operand.small }

-- a list of terms under an equal list of numbers
pub same_terms : (setting : Scenarios) (before work : Lowering) (given ids : List TermId) (ts : Terms) → given ≡ ids → AreTerms setting before work ids ts → AreTerms setting before work given ts
same_terms setting before work given ids ts same are = subst (λ l. AreTerms setting before work l ts) (sym same) are

-- one of the terms in what is added is too large
pub term_fails : (setting : Scenarios) (before after : Lowering) (t : Term) (fault : Fault) (r : Result TermId Fault) → r ≡ Err fault → SizesFail (root_in setting) (operand_subterms t) fault
    → MakesTerm setting before after t r
term_fails setting before after t fault r failed large =
    subst (MakesTerm setting before after t) (sym failed)
    (subst (λ l. SizesFail (root_in setting) l fault) (sym (operands_all t)) (fails_first (root_in setting) (operand_subterms t) (t ∷ []) fault large))

-- two sides of a comparison or of an implication, and tasks with their capacity
pub compared : (setting : Scenarios) (before mid work : Lowering) (op : CmpOp) (left right : TermId) (a b : Term) → IsMade setting before mid left.0 (a_term a) (subterms a)
    → IsMade setting mid work right.0 (a_term b) (subterms b) → HasCondOperands setting before work (new.Compare op left right) (c.Compare op a b)
compared setting before mid work op left right a b first second = record {
  extends = extends_twice setting before mid work first.extends second.extends;
  is = ap₂ (λ x y. c.Compare op x y) (later_is (things_of mid) (things_of work) left.0 a second.extends.grows first.stands) (term_is (things_of work) right.0 b second.stands);
  small = both_small (root_in setting) (subterms a) (subterms b) first.small second.small;
}

pub implied : (setting : Scenarios) (before mid work : Lowering) (left right : CondId) (a b : Cond) → IsMade setting before mid left.0 (a_cond a) (condition_subterms a)
    → IsMade setting mid work right.0 (a_cond b) (condition_subterms b) → HasCondOperands setting before work (new.Implies left right) (c.Implies a b)
implied setting before mid work left right a b first second = record {
  extends = extends_twice setting before mid work first.extends second.extends;
  is = ap₂ (λ x y. c.Implies x y) (later_cond_is (things_of mid) (things_of work) left.0 a second.extends.grows first.stands) (cond_is (things_of work) right.0 b second.stands);
  small = both_small (root_in setting) (condition_subterms a) (condition_subterms b) first.small second.small;
}

module _ (setting : Scenarios) (before mid work : Lowering) (ids : List (TermId × TermId × TermId)) (ts : Tasks) where
  pub tasks_is : (capacity : TermId) (t : Term) → AreTasks setting before mid ids ts → IsMade setting mid work capacity.0 (a_term t) (subterms t)
      → c.Cumulative (tasks_at (things_of work) (task_ids ids)) (term_at (things_of work) capacity.0) ≡ c.Cumulative ts t
  tasks_is capacity t tasks made =
      ap₂ (λ x y. c.Cumulative x y) (later_tasks (things_of mid) (things_of work) (task_ids ids) made.extends.grows tasks.exist ∙ tasks.are) (term_is (things_of work) capacity.0 t made.stands)

-- a term of a cell that stands from the start
pub cell_made : (setting : Scenarios) (work : Lowering) (cell : ℕ) (id : TermId) → IsReady setting work → id.0 < length (things_of work) → thing_at (things_of work) id.0 ≡ a_term (c.Cell cell)
    → size (root_built work.builder) (c.Cell cell) ≤ 2 ^ 40 → MakesTerm setting work work (c.Cell cell) (Ok id)
cell_made setting work cell id ready exists is small = record {
  extends = extends_not setting work ready;
  stands = record { exists = exists; is = is };
  small = one_measured setting work (c.Cell cell) (Ok id) small ready;
}

abbrev terms_of_task : Term → Term → Term → TaskTerms
terms_of_task x y z = record { start = x; duration = y; demand = z }

-- a task by its three terms, one after the other
pub task_made : (setting : Scenarios) (before first second after : Lowering) (a b d : TermId) (x y z : Term)
    → IsMade setting before first a.0 (a_term x) (subterms x) → IsMade setting first second b.0 (a_term y) (subterms y) → IsMade setting second after d.0 (a_term z) (subterms z)
    → IsTask setting before after (a, b, d) (record { start = x; duration = y; demand = z })
task_made setting before first second after a b d x y z start duration demand =
    let grown = grows_twice (things_of first) (things_of second) (things_of after) duration.extends.grows demand.extends.grows in
    let one = stands_grows (things_of first) (things_of after) a.0 (a_term x) grown start.stands in
    let two = stands_grows (things_of second) (things_of after) b.0 (a_term y) demand.extends.grows duration.stands in
    record {
      extends = extends_twice setting before second after (extends_twice setting before first second start.extends duration.extends) demand.extends;
      exist = (one.exists, (two.exists, (demand.stands.exists, tt)));
      is = ap (λ t. terms_of_task t (term_at (things_of after) b.0) (term_at (things_of after) d.0)) (term_is (things_of after) a.0 x one)
          ∙ (ap (λ t. terms_of_task x t (term_at (things_of after) d.0)) (term_is (things_of after) b.0 y two) ∙ ap (terms_of_task x y) (term_is (things_of after) d.0 z demand.stands));
      small = both_small (root_in setting) (subterms x) (subterms y ++ subterms z) start.small (both_small (root_in setting) (subterms y) (subterms z) duration.small demand.small);
    }

-- What a call says of what it made, clause by clause.
module _ {A : Type 0} (IsIt : A → Type 0) (root : Box) (sizes : List Term) where
  pub extends_so : {Q : Type 0} (r : Result A Fault) → Makes IsIt root sizes r → ((x : A) → IsIt x → Q) → OnOk r Q
  extends_so (Ok x) made so = so x made
  extends_so (Err fault) made so = tt

  pub stands_so : {P : A → Type 0} (r : Result A Fault) → Makes IsIt root sizes r → ((x : A) → IsIt x → P x) → IfOk r P
  stands_so (Ok x) made so = so x made
  stands_so (Err fault) made so = tt

  pub measured_so : (r : Result A Fault) → Makes IsIt root sizes r → ((x : A) → IsIt x → AreSmall root sizes) → Measures root sizes r
  measured_so (Ok x) made so = so x made
  measured_so (Err fault) made so = made.large

  -- it ends with a fault that these sizes give
  pub exits : (r : Result A Fault) (fault : Fault) → r ≡ Err fault → SizesFail root sizes fault → Makes IsIt root sizes r
  exits r fault failed large = subst (Makes IsIt root sizes) (sym failed) large
