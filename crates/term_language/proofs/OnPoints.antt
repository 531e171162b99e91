-- Each term and condition on a box of one point.
use Rattle.std.proofs.Common.{◌≡◌, true, false, [], ◌∷◌, refl, List}
use Rattle.box_problem.specs.Box.{Box, IsBox, IsPoint}
use Rattle.term_language.specs.Terms.{Term, Constant, Cell, Sum, Product, Made, Selected, Element, Number, Terms, no_term, term, Parts, no_part, part, Cond}
use Rattle.term_language.specs.Terms.{Compare, Not, All, Any, Implies, AllDifferent, Cumulative, Conds, no_cond, condition, Tasks, no_task, task}
use Rattle.term_language.specs.Ends.{Ends, made, picked}
use Rattle.term_language.specs.Forms.{sign, Form, whole}
use Rattle.term_language.specs.Marks.{both, all_marks, opposite}
use Rattle.term_language.specs.Globals.{never_differ, always_differ, TaskEnds, never_fit, always_fit}
use Rattle.term_language.specs.Rules.{Near, folds, form, forms, element_form, atoms, sum_atoms, intervals, mark, marks, sum_mark, truth, all_truth, any_truth, interval, task_ends, task_mark}
use Rattle.term_language.specs.Laws.{Exact, IsKnown, IsProper, AreProper, AreProperParts, IsProperCond, AreProperConds, AreProperTasks}
use Rattle.term_language.proofs.Exactness.{IsOne, AllOne, exact_map, exact_one, exact_product, exact_extreme, exact_part, exact_more, known_compared, known_judged, known_not}
use Rattle.term_language.proofs.Exactness.{known_and, known_or, one_whole, one_picked, one_made, one_truth, exact_both}
use Rattle.term_language.proofs.ElementPoints.{exact_element}
use Rattle.term_language.proofs.DifferentPoints.{never_or_always}
use Rattle.term_language.proofs.TaskParts as parts
use Rattle.term_language.proofs.TaskParts.{TasksOne}
use Rattle.term_language.specs.declared.answers.Defined.{Defined}

-- one task more
abbrev ends_of : Ends → Ends → Ends → TaskEnds
ends_of start duration demand = record { start = start; duration = duration; demand = demand }

exact_task : (b : Box) (f g h : Form) (x y z : Ends) (later : List TaskEnds) (m n k l : Defined) → IsBox b → IsPoint b → Exact m (IsOne x) → Exact n (IsOne y) → Exact k (IsOne z)
    → Exact l (TasksOne later) → Exact (both m (both n (both k l))) (TasksOne (ends_of (whole b f x) (whole b g y) (whole b h z) ∷ later))
exact_task b f g h x y z later m n k l is_box one p q r s =
    exact_both m (both n (both k l)) (IsOne x) (IsOne y × (IsOne z × TasksOne later)) (TasksOne (ends_of (whole b f x) (whole b g y) (whole b h z) ∷ later))
    (λ p_x rest. (record { start = one_whole b f x is_box one p_x; duration = one_whole b g y is_box one rest.0; demand = one_whole b h z is_box one rest.1.0 }, rest.1.1)) p
    (exact_both n (both k l) (IsOne y) (IsOne z × TasksOne later) (IsOne y × (IsOne z × TasksOne later)) (λ p_y rest. (p_y, rest)) q
    (exact_both k l (IsOne z) (TasksOne later) (IsOne z × TasksOne later) (λ p_z rest. (p_z, rest)) r s))

mutual
  exact : (root b : Box) (t : Term) → IsBox b → IsPoint b → IsProper t → Exact (mark Near root b t) (IsOne (atoms Near root b t))
  exact root b (Constant z) is_box one proper = refl
  exact root b (Cell cell) is_box one proper = refl
  exact root b (Sum parts) is_box one proper = exact_parts root b parts is_box one proper
  exact root b (Product a c) is_box one proper =
      exact_product b (form root a) (form root c) (atoms Near root b a) (atoms Near root b c) (mark Near root b a) (mark Near root b c) is_box one
      (exact root b a is_box one proper.0) (exact root b c is_box one proper.1)
  exact root b (Made op a) is_box one proper =
      exact_one b (folds (form root a ∷ []) (mark Near root root a)) (made op) (form root a) (atoms Near root b a) (mark Near root b a) (one_made op) is_box one (exact root b a is_box one proper)
  exact root b (Selected which a later) is_box one proper =
      exact_extreme b (folds (form root a ∷ forms root later) (both (mark Near root root a) (all_marks (marks Near root root later)))) (picked which) (form root a) (atoms Near root b a)
      (intervals Near root b later) (mark Near root b a) (all_marks (marks Near root b later)) (one_picked which) is_box one
      (exact root b a is_box one proper.0) (exact_all root b later is_box one proper.1)
  exact root b (Element table at) is_box one proper =
      exact_element b (element_form table (forms root at)).plain table (all_marks (marks Near root b at)) (intervals Near root b at) is_box one proper.0.distinct
      (exact_all root b at is_box one proper.1)
  exact root b (Number c) is_box one proper = one_truth (truth Near root b c) (known root b c is_box one proper)

  exact_parts : (root b : Box) (parts : Parts) → IsBox b → IsPoint b → AreProperParts parts → Exact (sum_mark Near root b parts) (IsOne (sum_atoms Near root b parts))
  exact_parts root b no_part is_box one proper = refl
  exact_parts root b (part subtracted t later) is_box one proper =
      exact_part (sign subtracted) (atoms Near root b t) (sum_atoms Near root b later) (mark Near root b t) (sum_mark Near root b later)
      (exact root b t is_box one proper.0) (exact_parts root b later is_box one proper.1)

  exact_all : (root b : Box) (ts : Terms) → IsBox b → IsPoint b → AreProper ts → Exact (all_marks (marks Near root b ts)) (AllOne (intervals Near root b ts))
  exact_all root b no_term is_box one proper = tt
  exact_all root b (term t later) is_box one proper =
      exact_more b (form root t) (atoms Near root b t) (intervals Near root b later) (mark Near root b t) (all_marks (marks Near root b later)) is_box one
      (exact root b t is_box one proper.0) (exact_all root b later is_box one proper.1)

  known : (root b : Box) (c : Cond) → IsBox b → IsPoint b → IsProperCond c → IsKnown (truth Near root b c)
  known root b (Compare op a c) is_box one proper =
      known_compared b op (form root a) (form root c) (atoms Near root b a) (atoms Near root b c) (mark Near root b a) (mark Near root b c) is_box one
      (exact root b a is_box one proper.0) (exact root b c is_box one proper.1)
  known root b (Not c) is_box one proper = known_not (truth Near root b c) (known root b c is_box one proper)
  known root b (All conds) is_box one proper = known_all root b conds is_box one proper
  known root b (Any conds) is_box one proper = known_any root b conds is_box one proper
  known root b (Implies a c) is_box one proper =
      known_or (opposite (truth Near root b a)) (truth Near root b c) (known_not (truth Near root b a) (known root b a is_box one proper.0)) (known root b c is_box one proper.1)
  known root b (AllDifferent terms) is_box one proper =
      known_judged (all_marks (marks Near root b terms)) (never_differ (intervals Near root b terms)) (always_differ (intervals Near root b terms))
      (exact_map (all_marks (marks Near root b terms)) (AllOne (intervals Near root b terms)) (never_differ (intervals Near root b terms) ≡ false → always_differ (intervals Near root b terms) ≡ true)
      (never_or_always (intervals Near root b terms)) (exact_all root b terms is_box one proper))
  known root b (Cumulative tasks capacity) is_box one proper =
      known_judged (both (task_mark Near root b tasks) (mark Near root b capacity)) (never_fit (task_ends Near root b tasks) (whole b (form root capacity) (atoms Near root b capacity)))
      (always_fit (task_ends Near root b tasks) (whole b (form root capacity) (atoms Near root b capacity)))
      (exact_both (task_mark Near root b tasks) (mark Near root b capacity) (TasksOne (task_ends Near root b tasks)) (IsOne (atoms Near root b capacity))
      (never_fit (task_ends Near root b tasks) (whole b (form root capacity) (atoms Near root b capacity)) ≡ false
      → always_fit (task_ends Near root b tasks) (whole b (form root capacity) (atoms Near root b capacity)) ≡ true)
      (λ all room. parts.never_or_always (task_ends Near root b tasks) (whole b (form root capacity) (atoms Near root b capacity)) all
      (one_whole b (form root capacity) (atoms Near root b capacity) is_box one room))
      (exact_tasks root b tasks is_box one proper.0) (exact root b capacity is_box one proper.1))

  exact_tasks : (root b : Box) (tasks : Tasks) → IsBox b → IsPoint b → AreProperTasks tasks → Exact (task_mark Near root b tasks) (TasksOne (task_ends Near root b tasks))
  exact_tasks root b no_task is_box one proper = tt
  exact_tasks root b (task start duration demand later) is_box one proper =
      exact_task b (form root start) (form root duration) (form root demand) (atoms Near root b start) (atoms Near root b duration) (atoms Near root b demand) (task_ends Near root b later)
      (mark Near root b start) (mark Near root b duration) (mark Near root b demand) (task_mark Near root b later) is_box one
      (exact root b start is_box one proper.0) (exact root b duration is_box one proper.1) (exact root b demand is_box one proper.2) (exact_tasks root b later is_box one proper.3)

  known_all : (root b : Box) (conds : Conds) → IsBox b → IsPoint b → AreProperConds conds → IsKnown (all_truth Near root b conds)
  known_all root b no_cond is_box one proper = tt
  known_all root b (condition c later) is_box one proper =
      known_and (truth Near root b c) (all_truth Near root b later) (known root b c is_box one proper.0) (known_all root b later is_box one proper.1)

  known_any : (root b : Box) (conds : Conds) → IsBox b → IsPoint b → AreProperConds conds → IsKnown (any_truth Near root b conds)
  known_any root b no_cond is_box one proper = tt
  known_any root b (condition c later) is_box one proper =
      known_or (truth Near root b c) (any_truth Near root b later) (known root b c is_box one proper.0) (known_any root b later is_box one proper.1)

-- the laws
pub points_exact : (root b : Box) (t : Term) → IsBox b → IsPoint b → IsProper t → Exact (mark Near root b t) ((interval Near root b t).low ≡ (interval Near root b t).high)
points_exact root b t is_box one proper =
    exact_map (mark Near root b t) (IsOne (atoms Near root b t)) (IsOne (interval Near root b t))
    (one_whole b (form root t) (atoms Near root b t) is_box one) (exact root b t is_box one proper)

pub points_known : (root b : Box) (c : Cond) → IsBox b → IsPoint b → IsProperCond c → IsKnown (truth Near root b c)
points_known = known
