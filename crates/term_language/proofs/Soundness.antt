-- Each term and condition at a point of a box.
use Rattle.std.proofs.Common.{ℤ, List, Option, Some, None, IfSome}
use Rattle.sopl_base.specs.Extremes.{chosen_by}
use Rattle.box_problem.specs.Box.{Box, IsBox, InBox}
use Rattle.term_language.specs.Terms.{Term, Constant, Cell, Sum, Product, Made, Selected, Element, Number, Terms, no_term, term, Parts, no_part, part, Cond}
use Rattle.term_language.specs.Terms.{Compare, Not, All, Any, Implies, AllDifferent, Cumulative, Conds, no_cond, condition, Tasks, no_task, task}
use Rattle.term_language.specs.Ends.{Ends, Lies, made_of, made, picked}
use Rattle.term_language.specs.Forms.{Form, sign, whole}
use Rattle.term_language.specs.Marks.{both, all_marks, opposite}
use Rattle.term_language.specs.Rules.{Reading, Near, form, forms, sum_form, atoms, sum_atoms, intervals, mark, marks, sum_mark, truth, all_truth, any_truth, interval, task_ends, task_mark}
use Rattle.term_language.specs.Values.{value, values, sum_value, holds, all_hold, any_holds, all_task_values}
use Rattle.term_language.specs.Laws.{Marks, Tells, IsProper, AreProper, AreProperParts, IsProperCond, AreProperConds, AreProperTasks}
use Rattle.term_language.proofs.FormValues.{Off, whole_lies}
use Rattle.term_language.proofs.Layers.{IsRead, read_number, read_cell, read_part, read_product, read_one}
use Rattle.term_language.proofs.Lists.{AreRead, read_none, read_more, read_extreme}
use Rattle.term_language.proofs.Elements.{read_element}
use Rattle.term_language.proofs.Different.{tells_different}
use Rattle.term_language.proofs.Tasks.{TasksRead, tells_tasks, lie_tasks, marked_tasks}
use Rattle.term_language.proofs.Operations.{in_made, in_picked}
use Rattle.term_language.proofs.Conditions.{tells_not, tells_and, tells_or, read_truth, tells_compared}

-- a value lies in the whole interval
pub lies_some : (b : Box) (p : List ℤ) (v : Option ℤ) (f : Form) (a : Ends) → IsBox b → InBox b p → IfSome v (λ x. Off p x f a) → IfSome v (λ x. Lies x (whole b f a))
lies_some b p None f a is_box q off = tt
lies_some b p (Some x) f a is_box q off = whole_lies b p x f a is_box q off

mutual
  pub read : (reading : Reading) (root b : Box) (p : List ℤ) (t : Term) → IsBox b → InBox b p → IsProper t → IsRead p (value p t) (form root t) (atoms reading root b t) (mark reading root b t)
  read reading root b p (Constant z) is_box q proper = read_number p z
  read reading root b p (Cell cell) is_box q proper = read_cell p cell
  read reading root b p (Sum parts) is_box q proper = read_parts reading root b p parts is_box q proper
  read reading root b p (Product a c) is_box q proper =
      read_product b p (value p a) (value p c) (form root a) (form root c) (atoms reading root b a) (atoms reading root b c) (mark reading root b a) (mark reading root b c) is_box q
      (read reading root b p a is_box q proper.0) (read reading root b p c is_box q proper.1)
  read reading root b p (Made op a) is_box q proper =
      read_one b p (made_of op) (made op) (value p a) (form root a) (atoms reading root b a) (mark reading root b a) (mark Near root root a) (in_made op) is_box q
      (read reading root b p a is_box q proper)
  read reading root b p (Selected which a later) is_box q proper =
      read_extreme b p (chosen_by which) (picked which) (value p a) (values p later) (form root a) (forms root later) (atoms reading root b a) (intervals reading root b later)
      (mark reading root b a) (all_marks (marks reading root b later)) (both (mark Near root root a) (all_marks (marks Near root root later))) (in_picked which) is_box q
      (read reading root b p a is_box q proper.0) (read_all reading root b p later is_box q proper.1)
  read reading root b p (Element table at) is_box q proper =
      read_element reading b p table (values p at) (forms root at) (intervals reading root b at) (all_marks (marks reading root b at)) is_box q proper.0.complete
      (read_all reading root b p at is_box q proper.1)
  read reading root b p (Number c) is_box q proper =
      read_truth p (truth reading root b c) (holds p c) (tells reading root b p c is_box q proper)

  pub read_parts : (reading : Reading) (root b : Box) (p : List ℤ) (parts : Parts) → IsBox b → InBox b p → AreProperParts parts
      → IsRead p (sum_value p parts) (sum_form root parts) (sum_atoms reading root b parts) (sum_mark reading root b parts)
  read_parts reading root b p no_part is_box q proper = read_number p _
  read_parts reading root b p (part subtracted t later) is_box q proper =
      read_part p (sign subtracted) (value p t) (sum_value p later) (form root t) (sum_form root later) (atoms reading root b t) (sum_atoms reading root b later) (mark reading root b t)
      (sum_mark reading root b later)
      (read reading root b p t is_box q proper.0) (read_parts reading root b p later is_box q proper.1)

  pub read_all : (reading : Reading) (root b : Box) (p : List ℤ) (ts : Terms) → IsBox b → InBox b p → AreProper ts
      → AreRead (values p ts) (forms root ts) (intervals reading root b ts) (all_marks (marks reading root b ts))
  read_all reading root b p no_term is_box q proper = read_none
  read_all reading root b p (term t later) is_box q proper =
      read_more b p (value p t) (values p later) (form root t) (forms root later) (atoms reading root b t) (intervals reading root b later) (mark reading root b t)
      (all_marks (marks reading root b later)) is_box q
      (read reading root b p t is_box q proper.0) (read_all reading root b p later is_box q proper.1)

  pub tells : (reading : Reading) (root b : Box) (p : List ℤ) (c : Cond) → IsBox b → InBox b p → IsProperCond c → Tells (truth reading root b c) (holds p c)
  tells reading root b p (Compare op a c) is_box q proper =
      tells_compared b p op (value p a) (value p c) (form root a) (form root c) (atoms reading root b a) (atoms reading root b c) (mark reading root b a) (mark reading root b c) is_box q
      (read reading root b p a is_box q proper.0) (read reading root b p c is_box q proper.1)
  tells reading root b p (Not c) is_box q proper =
      tells_not (truth reading root b c) (holds p c) (tells reading root b p c is_box q proper)
  tells reading root b p (All conds) is_box q proper = tells_all reading root b p conds is_box q proper
  tells reading root b p (Any conds) is_box q proper = tells_any reading root b p conds is_box q proper
  tells reading root b p (Implies a c) is_box q proper =
      tells_or (opposite (truth reading root b a)) (truth reading root b c) _ (holds p c)
      (tells_not (truth reading root b a) (holds p a) (tells reading root b p a is_box q proper.0)) (tells reading root b p c is_box q proper.1)
  tells reading root b p (AllDifferent terms) is_box q proper =
      let all = read_all reading root b p terms is_box q proper in
      tells_different (all_marks (marks reading root b terms)) (intervals reading root b terms) (values p terms) all.marked all.lie
  tells reading root b p (Cumulative tasks capacity) is_box q proper =
      let all = read_tasks reading root b p tasks is_box q proper.0 in
      let room = read reading root b p capacity is_box q proper.1 in
      tells_tasks (task_mark reading root b tasks) (mark reading root b capacity) (task_ends reading root b tasks) (whole b (form root capacity) (atoms reading root b capacity))
      (all_task_values p tasks) (value p capacity) all.marked room.marked all.lie
      (lies_some b p (value p capacity) (form root capacity) (atoms reading root b capacity) is_box q room.off)

  pub read_tasks : (reading : Reading) (root b : Box) (p : List ℤ) (tasks : Tasks) → IsBox b → InBox b p → AreProperTasks tasks
      → TasksRead (all_task_values p tasks) (task_ends reading root b tasks) (task_mark reading root b tasks)
  read_tasks reading root b p no_task is_box q proper = record { lie = tt; marked = tt }
  read_tasks reading root b p (task start duration demand later) is_box q proper =
      let s = read reading root b p start is_box q proper.0 in
      let d = read reading root b p duration is_box q proper.1 in
      let m = read reading root b p demand is_box q proper.2 in
      let rest = read_tasks reading root b p later is_box q proper.3 in
      record {
        lie = lie_tasks (value p start) (value p duration) (value p demand) (all_task_values p later)
            (record {
              start = whole b (form root start) (atoms reading root b start);
              duration = whole b (form root duration) (atoms reading root b duration);
              demand =
                  whole b (form root demand) (atoms reading root b demand);
            })
            (task_ends reading root b later)
            (lies_some b p (value p start) (form root start) (atoms reading root b start) is_box q s.off)
            (lies_some b p (value p duration) (form root duration) (atoms reading root b duration) is_box q d.off)
            (lies_some b p (value p demand) (form root demand) (atoms reading root b demand) is_box q m.off) rest.lie;
        marked = marked_tasks (mark reading root b start) (mark reading root b duration) (mark reading root b demand) (task_mark reading root b later) (value p start) (value p duration)
            (value p demand) (all_task_values p later) s.marked d.marked m.marked rest.marked;
      }

  pub tells_all : (reading : Reading) (root b : Box) (p : List ℤ) (conds : Conds) → IsBox b → InBox b p → AreProperConds conds → Tells (all_truth reading root b conds) (all_hold p conds)
  tells_all reading root b p no_cond is_box q proper = tt
  tells_all reading root b p (condition c later) is_box q proper =
      tells_and (truth reading root b c) (all_truth reading root b later) (holds p c) (all_hold p later)
      (tells reading root b p c is_box q proper.0) (tells_all reading root b p later is_box q proper.1)

  pub tells_any : (reading : Reading) (root b : Box) (p : List ℤ) (conds : Conds) → IsBox b → InBox b p → AreProperConds conds → Tells (any_truth reading root b conds) (any_holds p conds)
  tells_any reading root b p no_cond is_box q proper = tt
  tells_any reading root b p (condition c later) is_box q proper =
      tells_or (truth reading root b c) (any_truth reading root b later) (holds p c) (any_holds p later)
      (tells reading root b p c is_box q proper.0) (tells_any reading root b p later is_box q proper.1)

-- the laws
pub values_lie : (reading : Reading) (root b : Box) (point : List ℤ) (t : Term) → IsBox b → InBox b point → IsProper t → IfSome (value point t) (λ z. Lies z (interval reading root b t))
values_lie reading root b point t is_box q proper =
    lies_some b point (value point t) (form root t) (atoms reading root b t) is_box q (read reading root b point t is_box q proper).off

pub marks_tell : (reading : Reading) (root b : Box) (point : List ℤ) (t : Term) → IsBox b → InBox b point → IsProper t → Marks (mark reading root b t) (value point t)
marks_tell reading root b point t is_box q proper = (read reading root b point t is_box q proper).marked

pub truths_tell : (reading : Reading) (root b : Box) (point : List ℤ) (c : Cond) → IsBox b → InBox b point → IsProperCond c → Tells (truth reading root b c) (holds point c)
truths_tell = tells
