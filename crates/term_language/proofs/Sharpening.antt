-- Each term and condition over a part of a box.
use Rattle.std.proofs.Common.{pos, List}
use Rattle.box_problem.specs.Box.{Box, IsBox, Inside}
use Rattle.term_language.specs.declared.answers.Defined.{Defined}
use Rattle.term_language.specs.Terms.{Term, Constant, Cell, Sum, Product, Made, Selected, Element, Number, Terms, no_term, term, Parts, no_part, part, Cond}
use Rattle.term_language.specs.Terms.{Compare, Not, All, Any, Implies, AllDifferent, Cumulative, Conds, no_cond, condition, Tasks, no_task, task}
use Rattle.term_language.specs.Ends.{Ends, scaled, made, picked}
use Rattle.term_language.specs.Forms.{sign, whole}
use Rattle.term_language.specs.Marks.{both, all_marks, opposite}
use Rattle.term_language.specs.Rules.{element_form, element_ends, forms, Reading, Wide, form, atoms, sum_atoms, intervals, mark, marks, sum_mark, truth, all_truth, any_truth, interval}
use Rattle.term_language.specs.Rules.{difference_ends, task_ends, task_mark}
use Rattle.term_language.specs.Laws.{Within, Sharper, Surer, IsProper, AreProper, AreProperParts, IsProperCond, AreProperConds, AreProperTasks}
use Rattle.term_language.proofs.ElementParts.{within_element, sharper_element}
use Rattle.term_language.proofs.DifferentParts.{surer_different}
use Rattle.term_language.proofs.TaskParts.{TasksWithin, surer_tasks}
use Rattle.term_language.specs.Globals.{TaskEnds}
use Rattle.term_language.proofs.Narrowing.{within_exactly, within_plus, within_scaled, within_made, within_picked, within_whole}
use Rattle.term_language.proofs.Narrowing.{within_product, within_folded, within_difference, within_truth, AllWithin, within_fold, sharper_both, surer_not, surer_and, surer_or}
use Rattle.term_language.proofs.Narrowing.{surer_compared}

pub record IsNarrower (a c : Ends) (m n : Defined) : Type 0 where
  pub within : Within a c
  pub sharper : Sharper m n

pub record AreNarrower (narrow wide : List Ends) (m n : Defined) : Type 0 where
  pub within : AllWithin narrow wide
  pub sharper : Sharper m n

pub record TasksNarrower (narrow wide : List TaskEnds) (m n : Defined) : Type 0 where
  pub within : TasksWithin narrow wide
  pub sharper : Sharper m n

mutual
  pub narrow : (reading : Reading) (root b w : Box) (t : Term) → IsBox w → Inside b w → IsProper t
      → IsNarrower (atoms reading root b t) (atoms Wide root w t) (mark reading root b t) (mark Wide root w t)
  narrow reading root b w (Constant z) is_box inside proper = record { within = within_exactly (pos 0); sharper = tt }
  narrow reading root b w (Cell cell) is_box inside proper = record { within = within_exactly (pos 0); sharper = tt }
  narrow reading root b w (Sum parts) is_box inside proper = narrow_parts reading root b w parts is_box inside proper
  narrow reading root b w (Product a c) is_box inside proper =
      let first = narrow reading root b w a is_box inside proper.0 in
      let second = narrow reading root b w c is_box inside proper.1 in
      record {
        within = within_product b w (form root a) (form root c) (atoms reading root b a) (atoms reading root b c) (atoms Wide root w a) (atoms Wide root w c) is_box inside first.within second.within;
        sharper = sharper_both (mark reading root b a) (mark reading root b c) (mark Wide root w a) (mark Wide root w c) first.sharper second.sharper;
      }
  narrow reading root b w (Made op a) is_box inside proper =
      let first = narrow reading root b w a is_box inside proper in
      record {
        within = within_folded _ (made op (whole b (form root a) (atoms reading root b a))) (made op (whole w (form root a) (atoms Wide root w a)))
            (within_made op (whole b (form root a) (atoms reading root b a)) (whole w (form root a) (atoms Wide root w a))
            (within_whole b w (form root a) (atoms reading root b a) (atoms Wide root w a) is_box inside first.within));
        sharper = first.sharper;
      }
  narrow reading root b w (Selected which a later) is_box inside proper =
      let first = narrow reading root b w a is_box inside proper.0 in
      let rest = narrow_all reading root b w later is_box inside proper.1 in
      record {
        within = within_folded _ _ _ (within_fold (picked which) (whole b (form root a) (atoms reading root b a)) (whole w (form root a) (atoms Wide root w a)) (intervals reading root b later)
            (intervals Wide root w later) (within_picked which) (within_whole b w (form root a) (atoms reading root b a) (atoms Wide root w a) is_box inside first.within) rest.within);
        sharper = sharper_both (mark reading root b a) (all_marks (marks reading root b later)) (mark Wide root w a) (all_marks (marks Wide root w later)) first.sharper rest.sharper;
      }
  narrow reading root b w (Element table at) is_box inside proper =
      let rest = narrow_all reading root b w at is_box inside proper.1 in
      record {
        within = within_folded (element_form table (forms root at)).plain (element_ends reading b (intervals reading root b at) table) (element_ends Wide w (intervals Wide root w at) table)
            (within_element reading b w (intervals reading root b at) (intervals Wide root w at) table is_box inside);
        sharper = sharper_element table (all_marks (marks reading root b at)) (all_marks (marks Wide root w at)) (intervals reading root b at) (intervals Wide root w at) proper.0.complete
            rest.sharper rest.within;
      }
  narrow reading root b w (Number c) is_box inside proper = record {
    within = within_truth (truth reading root b c) (truth Wide root w c) (surer reading root b w c is_box inside proper);
    sharper = tt;
  }

  pub narrow_parts : (reading : Reading) (root b w : Box) (parts : Parts) → IsBox w → Inside b w → AreProperParts parts
      → IsNarrower (sum_atoms reading root b parts) (sum_atoms Wide root w parts) (sum_mark reading root b parts) (sum_mark Wide root w parts)
  narrow_parts reading root b w no_part is_box inside proper = record { within = within_exactly (pos 0); sharper = tt }
  narrow_parts reading root b w (part subtracted t later) is_box inside proper =
      let first = narrow reading root b w t is_box inside proper.0 in
      let rest = narrow_parts reading root b w later is_box inside proper.1 in
      record {
        within = within_plus (scaled (sign subtracted) (atoms reading root b t)) (sum_atoms reading root b later) (scaled (sign subtracted) (atoms Wide root w t)) (sum_atoms Wide root w later)
            (within_scaled (sign subtracted) (atoms reading root b t) (atoms Wide root w t) first.within) rest.within;
        sharper = sharper_both (mark reading root b t) (sum_mark reading root b later) (mark Wide root w t) (sum_mark Wide root w later) first.sharper rest.sharper;
      }

  pub narrow_all : (reading : Reading) (root b w : Box) (ts : Terms) → IsBox w → Inside b w → AreProper ts
      → AreNarrower (intervals reading root b ts) (intervals Wide root w ts) (all_marks (marks reading root b ts)) (all_marks (marks Wide root w ts))
  narrow_all reading root b w no_term is_box inside proper = record { within = tt; sharper = tt }
  narrow_all reading root b w (term t later) is_box inside proper =
      let first = narrow reading root b w t is_box inside proper.0 in
      let rest = narrow_all reading root b w later is_box inside proper.1 in
      record {
        within = (within_whole b w (form root t) (atoms reading root b t) (atoms Wide root w t) is_box inside first.within, rest.within);
        sharper = sharper_both (mark reading root b t) (all_marks (marks reading root b later)) (mark Wide root w t) (all_marks (marks Wide root w later)) first.sharper rest.sharper;
      }

  pub surer : (reading : Reading) (root b w : Box) (c : Cond) → IsBox w → Inside b w → IsProperCond c → Surer (truth reading root b c) (truth Wide root w c)
  surer reading root b w (Compare op a c) is_box inside proper =
      let first = narrow reading root b w a is_box inside proper.0 in
      let second = narrow reading root b w c is_box inside proper.1 in
      surer_compared op (difference_ends b (form root a) (form root c) (atoms reading root b a) (atoms reading root b c))
      (difference_ends w (form root a) (form root c) (atoms Wide root w a) (atoms Wide root w c))
      (both (mark reading root b a) (mark reading root b c)) (both (mark Wide root w a) (mark Wide root w c))
      (within_difference b w (form root a) (form root c) (atoms reading root b a) (atoms reading root b c) (atoms Wide root w a) (atoms Wide root w c) is_box inside first.within second.within)
      (sharper_both (mark reading root b a) (mark reading root b c) (mark Wide root w a) (mark Wide root w c) first.sharper second.sharper)
  surer reading root b w (Not c) is_box inside proper =
      surer_not (truth reading root b c) (truth Wide root w c) (surer reading root b w c is_box inside proper)
  surer reading root b w (All conds) is_box inside proper = surer_all reading root b w conds is_box inside proper
  surer reading root b w (Any conds) is_box inside proper = surer_any reading root b w conds is_box inside proper
  surer reading root b w (Implies a c) is_box inside proper =
      surer_or (opposite (truth reading root b a)) (truth reading root b c) (opposite (truth Wide root w a)) (truth Wide root w c)
      (surer_not (truth reading root b a) (truth Wide root w a) (surer reading root b w a is_box inside proper.0)) (surer reading root b w c is_box inside proper.1)
  surer reading root b w (AllDifferent terms) is_box inside proper =
      let rest = narrow_all reading root b w terms is_box inside proper in
      surer_different (all_marks (marks reading root b terms)) (all_marks (marks Wide root w terms)) (intervals reading root b terms) (intervals Wide root w terms) rest.sharper rest.within
  surer reading root b w (Cumulative tasks capacity) is_box inside proper =
      let all = narrow_tasks reading root b w tasks is_box inside proper.0 in
      let room = narrow reading root b w capacity is_box inside proper.1 in
      surer_tasks (both (task_mark reading root b tasks) (mark reading root b capacity)) (both (task_mark Wide root w tasks) (mark Wide root w capacity)) (task_ends reading root b tasks)
      (task_ends Wide root w tasks)
      (whole b (form root capacity) (atoms reading root b capacity)) (whole w (form root capacity) (atoms Wide root w capacity))
      (sharper_both (task_mark reading root b tasks) (mark reading root b capacity) (task_mark Wide root w tasks) (mark Wide root w capacity) all.sharper room.sharper) all.within
      (within_whole b w (form root capacity) (atoms reading root b capacity) (atoms Wide root w capacity) is_box inside room.within)

  pub narrow_tasks : (reading : Reading) (root b w : Box) (tasks : Tasks) → IsBox w → Inside b w → AreProperTasks tasks
      → TasksNarrower (task_ends reading root b tasks) (task_ends Wide root w tasks) (task_mark reading root b tasks) (task_mark Wide root w tasks)
  narrow_tasks reading root b w no_task is_box inside proper = record { within = tt; sharper = tt }
  narrow_tasks reading root b w (task start duration demand later) is_box inside proper =
      let s = narrow reading root b w start is_box inside proper.0 in
      let d = narrow reading root b w duration is_box inside proper.1 in
      let m = narrow reading root b w demand is_box inside proper.2 in
      let rest = narrow_tasks reading root b w later is_box inside proper.3 in
      record {
        within = (
          record {
            start = within_whole b w (form root start) (atoms reading root b start) (atoms Wide root w start) is_box inside s.within;
            duration = within_whole b w (form root duration) (atoms reading root b duration) (atoms Wide root w duration) is_box inside d.within;
            demand = within_whole b w (form root demand) (atoms reading root b demand) (atoms Wide root w demand) is_box inside m.within;
          },
          rest.within,
        );
        sharper =
            sharper_both (mark reading root b start) (both (mark reading root b duration) (both (mark reading root b demand) (task_mark reading root b later))) (mark Wide root w start)
            (both (mark Wide root w duration) (both (mark Wide root w demand) (task_mark Wide root w later))) s.sharper
            (sharper_both (mark reading root b duration) (both (mark reading root b demand) (task_mark reading root b later)) (mark Wide root w duration)
            (both (mark Wide root w demand) (task_mark Wide root w later)) d.sharper
            (sharper_both (mark reading root b demand) (task_mark reading root b later) (mark Wide root w demand) (task_mark Wide root w later) m.sharper rest.sharper));
      }

  pub surer_all : (reading : Reading) (root b w : Box) (conds : Conds) → IsBox w → Inside b w → AreProperConds conds → Surer (all_truth reading root b conds) (all_truth Wide root w conds)
  surer_all reading root b w no_cond is_box inside proper = tt
  surer_all reading root b w (condition c later) is_box inside proper =
      surer_and (truth reading root b c) (all_truth reading root b later) (truth Wide root w c) (all_truth Wide root w later)
      (surer reading root b w c is_box inside proper.0) (surer_all reading root b w later is_box inside proper.1)

  pub surer_any : (reading : Reading) (root b w : Box) (conds : Conds) → IsBox w → Inside b w → AreProperConds conds → Surer (any_truth reading root b conds) (any_truth Wide root w conds)
  surer_any reading root b w no_cond is_box inside proper = tt
  surer_any reading root b w (condition c later) is_box inside proper =
      surer_or (truth reading root b c) (any_truth reading root b later) (truth Wide root w c) (any_truth Wide root w later)
      (surer reading root b w c is_box inside proper.0) (surer_any reading root b w later is_box inside proper.1)

-- the laws
pub intervals_narrow : (reading : Reading) (root part whole : Box) (t : Term) → IsBox whole → Inside part whole → IsProper t → Within (interval reading root part t) (interval Wide root whole t)
intervals_narrow reading root b w t is_box inside proper =
    within_whole b w (form root t) (atoms reading root b t) (atoms Wide root w t) is_box inside (narrow reading root b w t is_box inside proper).within

pub marks_sharpen : (reading : Reading) (root part whole : Box) (t : Term) → IsBox whole → Inside part whole → IsProper t → Sharper (mark reading root part t) (mark Wide root whole t)
marks_sharpen reading root b w t is_box inside proper = (narrow reading root b w t is_box inside proper).sharper

pub truths_sharpen : (reading : Reading) (root part whole : Box) (c : Cond) → IsBox whole → Inside part whole → IsProperCond c → Surer (truth reading root part c) (truth Wide root whole c)
truths_sharpen = surer
