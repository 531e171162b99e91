-- The propagator as it is made.
use Rattle.std.proofs.Common.{◌≡◌, ◌∙◌, refl, ap, sym, subst, ℕ, ◌+◌, ◌*◌, Bool, true, false, if◌then◌else◌, List, [], ◌∷◌, Option, Some, IfSome, length, slice_get, arith}
use Rattle.std.proofs.lemmas.List.{length-map}
use Rattle.std.specs.Option.{option_and_then}
use Rattle.box_problem.specs.Box.{Box}
use Rattle.term_language.specs.Terms.{Term, Terms, Tasks, no_task, no_term, task, term, Cond, Compare, Not, All, Any, Implies, AllDifferent, Cumulative}
use Rattle.term_language.proofs.FormValues.{by_bool}
use Rattle.term_nodes.specs.Things.{Thing, cond_at, terms_at}
use Rattle.term_program.specs.Comparisons.{is_linear_pair, shape_in}
use Rattle.term_program.specs.Globals.{global_terms, tasks_then, term_ids}
use Rattle.term_program.specs.Programs.{IsMade, problem_in, root_in, things_in}
use Rattle.term_store.specs.declared.ids.TermId.{TermId}
use Rattle.term_program.specs.declared.program.Program.{Program}
use Rattle.term_program.specs.declared.shapes.Form.{Form}
use Rattle.term_program.specs.declared.shapes.Form.TheVariants as shape
use Rattle.prop_operands.specs.Kept.{AreOperands, operand_ids, operand_terms}
use Rattle.prop_operands.specs.declared.operands.Operand.{Operand}
use Rattle.prop_cumul.specs.Kinds.{Fits, IsCumulative}
use Rattle.prop_cumul.specs.Profiles.{HasTasks}
use Rattle.prop_cumul.specs.declared.cumul.Cumul.{Cumul}

linear_isnt : ¬ shape.Linear ≡ shape.Cumulative
linear_isnt is = cc

other_isnt : ¬ shape.Other ≡ shape.Cumulative
other_isnt is = cc

different_isnt : ¬ shape.AllDifferent ≡ shape.Cumulative
different_isnt is = cc

-- a condition of this shape, taken apart
record IsOf (c : Cond) : Type 0 where
  tasks : Tasks
  capacity : Term
  is : c ≡ Cumulative tasks capacity

cumulative_is : (root : Box) (c : Cond) → shape_in root c ≡ shape.Cumulative → IsOf c
cumulative_is root (Compare op a b) is =
    absurd
    (by_bool (λ t. ¬ (if t then shape.Linear else shape.Other) ≡ shape.Cumulative) (is_linear_pair root a b) (λ met. linear_isnt) (λ unmet. other_isnt) is)
cumulative_is root (Not c) is = absurd (other_isnt is)
cumulative_is root (All conds) is = absurd (other_isnt is)
cumulative_is root (Any conds) is = absurd (other_isnt is)
cumulative_is root (Implies a c) is = absurd (other_isnt is)
cumulative_is root (AllDifferent terms) is = absurd (different_isnt is)
cumulative_is root (Cumulative tasks capacity) is = record { tasks = tasks; capacity = capacity; is = refl }

shape_there : (root : Box) (found : Option Cond) (c : Cond) → found ≡ Some c → IfSome found (λ cond. shape_in root cond ≡ shape.Cumulative) → shape_in root c ≡ shape.Cumulative
shape_there root found c is shaped = subst (λ (o : Option Cond). IfSome o (λ cond. shape_in root cond ≡ shape.Cumulative)) is shaped

-- how many terms there are
abbrev term_count : Terms → ℕ
term_count no_term = 0
term_count (term t later) = term_count later + 1

abbrev task_count : Tasks → ℕ
task_count no_task = 0
task_count (task s d m later) = task_count later + 1

count_at : (all : List Thing) (ids : List ℕ) → term_count (terms_at all ids) ≡ length ids
count_at all [] = refl
count_at all (id ∷ ids) = omega (arith, count_at all ids)

count_then : (tasks : Tasks) (capacity : Term) → term_count (tasks_then tasks (term capacity no_term)) ≡ 3 * task_count tasks + 1
count_then no_task capacity = refl
count_then (task s d m later) capacity = omega (arith, count_then later capacity)

pub fits : (p : Cumul) (program : Program) (id : ℕ) (terms : List TermId) → IsMade program → IsCumulative program p.instance p.scenario
    → option_and_then (λ conditions. slice_get conditions p.scenario) (slice_get (problem_in program).hards p.instance) ≡ Some (cond_at (things_in program) id)
    → terms_at (things_in program) (term_ids terms) ≡ global_terms (cond_at (things_in program) id) → operand_ids p.operands.list.items ≡ term_ids terms → AreOperands program p.operands
    → ((n : ℕ) → length terms ≡ 3 * n + 1 → length p.profile.tasks.items ≡ n) → Fits p program
fits p program id terms made cumulative at listed same operands room =
    let root = root_in program in
    let c = cond_at (things_in program) id in
    let of = cumulative_is root c (shape_there root (option_and_then (λ conditions. slice_get conditions p.scenario) (slice_get (problem_in program).hards p.instance)) c at cumulative) in
    let known : operand_terms program p.operands.list.items ≡ tasks_then of.tasks (term of.capacity no_term) =
    ap (terms_at (things_in program)) same ∙ listed ∙ ap global_terms of.is in
    let many : term_count (tasks_then of.tasks (term of.capacity no_term)) ≡ length (operand_ids p.operands.list.items) =
    sym (ap term_count known) ∙ count_at (things_in program) (operand_ids p.operands.list.items) in
    let ids : length (operand_ids p.operands.list.items) ≡ length (term_ids terms) = ap length same in
    let long : length terms ≡ 3 * task_count of.tasks + 1 =
    omega (arith, many, ids, length-map terms (λ (t : TermId). t.0), count_then of.tasks of.capacity) in
    record {
      made = made;
      condition = record { tasks = of.tasks; capacity = of.capacity; condition = at ∙ ap (λ (x : Cond). Some x) of.is; terms = known };
      operands = operands;
      room = omega (arith, room (task_count of.tasks) long, long, ids, length-map terms (λ (t : TermId). t.0), length-map p.operands.list.items (λ (x : Operand). x.term.0));
    }
