-- Each term and condition over boxes that agree on the cells that it mentions.
use Rattle.std.proofs.Common.{◌≡◌, List, [], ◌∷◌, ◌++◌, refl, ap, ap₂, ◌∙◌}
use Rattle.std.specs.List.{fold}
use Rattle.box_problem.specs.Box.{Box}
use Rattle.term_language.specs.declared.answers.Defined.{Defined}
use Rattle.term_language.specs.declared.answers.Truth.{Truth}
use Rattle.term_language.specs.Terms.{Term, Constant, Cell, Sum, Product, Made, Selected, Element, Number, Terms, no_term, term, Parts, no_part, part, Cond}
use Rattle.term_language.specs.Terms.{Compare, Not, All, Any, Implies, AllDifferent, Cumulative, Conds, no_cond, condition, Tasks, no_task, task}
use Rattle.term_language.specs.Ends.{Ends, plus, scaled, made, picked}
use Rattle.term_language.specs.Forms.{sign, whole}
use Rattle.term_language.specs.Marks.{both, all_marks, opposite, and_truth, or_truth, truth_ends, judged, compared}
use Rattle.term_language.specs.Globals.{never_differ, always_differ, TaskEnds, never_fit, always_fit}
use Rattle.term_language.specs.Rules.{Reading, Near, folds, unless_folded, element_mark, form, forms, atoms, sum_atoms, intervals, mark, marks, sum_mark, truth, all_truth, any_truth}
use Rattle.term_language.specs.Rules.{task_ends, task_mark, interval}
use Rattle.term_language.specs.Mentions.{named_item, element_mentions, mentions, terms_mention, parts_mention, cond_mentions, conds_mention, tasks_mention}
use Rattle.term_language.specs.MentionLaws.{BoxesAgree}
use Rattle.term_language.proofs.Reaching.{Reach, reach_all, first, second}
use Rattle.term_language.proofs.Forms.{over_form}
use Rattle.term_language.proofs.Parts.{Same, same_whole, same_product, same_difference, same_named, one_task}

-- the whole interval of a term, where the non-linear part of it is known to be the same
by_atoms : (reading : Reading) (root b c : Box) (t : Term) → Reach (Same b c) (mentions root t) → atoms reading root b t ≡ atoms reading root c t → whole b (form root t) (atoms reading root b t)
    ≡ whole c (form root t) (atoms reading root c t)
by_atoms reading root b c t reach same =
    same_whole b c (form root t) (atoms reading root b t) (atoms reading root c t) (over_form (Same b c) root t reach) same

mutual
  same_atoms : (reading : Reading) (root b c : Box) (t : Term) → Reach (Same b c) (mentions root t) → atoms reading root b t ≡ atoms reading root c t
  same_atoms reading root b c (Constant z) reach = refl
  same_atoms reading root b c (Cell cell) reach = refl
  same_atoms reading root b c (Sum parts) reach = same_sum reading root b c parts reach
  same_atoms reading root b c (Product x y) reach =
      let left = first (Same b c) (mentions root x) (mentions root y) reach in
      let right = second (Same b c) (mentions root x) (mentions root y) reach in
      same_product b c (form root x) (form root y) (atoms reading root b x) (atoms reading root b y) (atoms reading root c x) (atoms reading root c y) (over_form (Same b c) root x left)
      (over_form (Same b c) root y right) (same_atoms reading root b c x left) (same_atoms reading root b c y right)
  same_atoms reading root b c (Made op x) reach =
      ap (λ (e : Ends). unless_folded (folds (form root x ∷ []) (mark Near root root x)) (made op e)) (by_atoms reading root b c x reach (same_atoms reading root b c x reach))
  same_atoms reading root b c (Selected which x later) reach =
      let here = first (Same b c) (mentions root x) (terms_mention root later) reach in
      ap₂ (λ (e : Ends) (es : List Ends). unless_folded (folds (form root x ∷ forms root later) (both (mark Near root root x) (all_marks (marks Near root root later)))) (fold (picked which) e es))
      (by_atoms reading root b c x here (same_atoms reading root b c x here))
      (same_intervals reading root b c later (second (Same b c) (mentions root x) (terms_mention root later) reach))
  same_atoms reading root b c (Element table indices) reach =
      let item = named_item table (forms root indices) in
      same_named reading b c table (forms root indices) (intervals reading root b indices) (intervals reading root c indices)
      (first (Same b c) (element_mentions table item) (terms_mention root indices) reach)
      (same_intervals reading root b c indices (second (Same b c) (element_mentions table item) (terms_mention root indices) reach))
  same_atoms reading root b c (Number cond) reach = ap truth_ends (same_truth reading root b c cond reach)

  same_sum : (reading : Reading) (root b c : Box) (parts : Parts) → Reach (Same b c) (parts_mention root parts) → sum_atoms reading root b parts ≡ sum_atoms reading root c parts
  same_sum reading root b c no_part reach = refl
  same_sum reading root b c (part subtracted t later) reach =
      ap₂ (λ (e f : Ends). plus (scaled (sign subtracted) e) f) (same_atoms reading root b c t (first (Same b c) (mentions root t) (parts_mention root later) reach))
      (same_sum reading root b c later (second (Same b c) (mentions root t) (parts_mention root later) reach))

  same_intervals : (reading : Reading) (root b c : Box) (ts : Terms) → Reach (Same b c) (terms_mention root ts) → intervals reading root b ts ≡ intervals reading root c ts
  same_intervals reading root b c no_term reach = refl
  same_intervals reading root b c (term t later) reach =
      ap₂ (λ (e : Ends) (es : List Ends). e ∷ es) (by_atoms reading root b c t (first (Same b c) (mentions root t) (terms_mention root later) reach)
      (same_atoms reading root b c t (first (Same b c) (mentions root t) (terms_mention root later) reach)))
      (same_intervals reading root b c later (second (Same b c) (mentions root t) (terms_mention root later) reach))

  same_mark : (reading : Reading) (root b c : Box) (t : Term) → Reach (Same b c) (mentions root t) → mark reading root b t ≡ mark reading root c t
  same_mark reading root b c (Constant z) reach = refl
  same_mark reading root b c (Cell cell) reach = refl
  same_mark reading root b c (Sum parts) reach = same_sum_mark reading root b c parts reach
  same_mark reading root b c (Product x y) reach =
      ap₂ both (same_mark reading root b c x (first (Same b c) (mentions root x) (mentions root y) reach)) (same_mark reading root b c y (second (Same b c) (mentions root x) (mentions root y) reach))
  same_mark reading root b c (Made op x) reach = same_mark reading root b c x reach
  same_mark reading root b c (Selected which x later) reach =
      ap₂ both (same_mark reading root b c x (first (Same b c) (mentions root x) (terms_mention root later) reach))
      (same_marks reading root b c later (second (Same b c) (mentions root x) (terms_mention root later) reach))
  same_mark reading root b c (Element table indices) reach =
      let at = second (Same b c) (element_mentions table (named_item table (forms root indices))) (terms_mention root indices) reach in
      ap₂ (element_mark table) (same_marks reading root b c indices at) (same_intervals reading root b c indices at)
  same_mark reading root b c (Number cond) reach = refl

  same_marks : (reading : Reading) (root b c : Box) (ts : Terms) → Reach (Same b c) (terms_mention root ts) → all_marks (marks reading root b ts) ≡ all_marks (marks reading root c ts)
  same_marks reading root b c no_term reach = refl
  same_marks reading root b c (term t later) reach =
      ap₂ both (same_mark reading root b c t (first (Same b c) (mentions root t) (terms_mention root later) reach))
      (same_marks reading root b c later (second (Same b c) (mentions root t) (terms_mention root later) reach))

  same_sum_mark : (reading : Reading) (root b c : Box) (parts : Parts) → Reach (Same b c) (parts_mention root parts) → sum_mark reading root b parts ≡ sum_mark reading root c parts
  same_sum_mark reading root b c no_part reach = refl
  same_sum_mark reading root b c (part subtracted t later) reach =
      ap₂ both (same_mark reading root b c t (first (Same b c) (mentions root t) (parts_mention root later) reach))
      (same_sum_mark reading root b c later (second (Same b c) (mentions root t) (parts_mention root later) reach))

  same_truth : (reading : Reading) (root b c : Box) (cond : Cond) → Reach (Same b c) (cond_mentions root cond) → truth reading root b cond ≡ truth reading root c cond
  same_truth reading root b c (Compare op x y) reach =
      let left = first (Same b c) (mentions root x) (mentions root y) reach in
      let right = second (Same b c) (mentions root x) (mentions root y) reach in
      ap₂ (compared op)
      (same_difference b c (form root x) (form root y) (atoms reading root b x) (atoms reading root b y) (atoms reading root c x) (atoms reading root c y) (over_form (Same b c) root x left)
      (over_form (Same b c) root y right) (same_atoms reading root b c x left) (same_atoms reading root b c y right))
      (ap₂ both (same_mark reading root b c x left) (same_mark reading root b c y right))
  same_truth reading root b c (Not cond) reach = ap opposite (same_truth reading root b c cond reach)
  same_truth reading root b c (All conds) reach = same_all reading root b c conds reach
  same_truth reading root b c (Any conds) reach = same_any reading root b c conds reach
  same_truth reading root b c (Implies x y) reach =
      ap₂ (λ (s t : Truth). or_truth (opposite s) t) (same_truth reading root b c x (first (Same b c) (cond_mentions root x) (cond_mentions root y) reach))
      (same_truth reading root b c y (second (Same b c) (cond_mentions root x) (cond_mentions root y) reach))
  same_truth reading root b c (AllDifferent terms) reach =
      ap₂ (λ (m : Defined) (es : List Ends). judged m (never_differ es) (always_differ es)) (same_marks reading root b c terms reach) (same_intervals reading root b c terms reach)
  same_truth reading root b c (Cumulative tasks capacity) reach =
      let each = first (Same b c) (tasks_mention root tasks) (mentions root capacity) reach in
      let room = second (Same b c) (tasks_mention root tasks) (mentions root capacity) reach in
      ap₂ (λ (m : Defined) (ends : List TaskEnds). judged m (never_fit ends (whole b (form root capacity) (atoms reading root b capacity)))
      (always_fit ends (whole b (form root capacity) (atoms reading root b capacity))))
      (ap₂ both (same_task_mark reading root b c tasks each) (same_mark reading root b c capacity room)) (same_tasks reading root b c tasks each)
      ∙ ap (λ (e : Ends). judged (both (task_mark reading root c tasks) (mark reading root c capacity)) (never_fit (task_ends reading root c tasks) e) (always_fit (task_ends reading root c tasks) e))
      (by_atoms reading root b c capacity room (same_atoms reading root b c capacity room))

  same_all : (reading : Reading) (root b c : Box) (conds : Conds) → Reach (Same b c) (conds_mention root conds) → all_truth reading root b conds ≡ all_truth reading root c conds
  same_all reading root b c no_cond reach = refl
  same_all reading root b c (condition cond later) reach =
      ap₂ and_truth (same_truth reading root b c cond (first (Same b c) (cond_mentions root cond) (conds_mention root later) reach))
      (same_all reading root b c later (second (Same b c) (cond_mentions root cond) (conds_mention root later) reach))

  same_any : (reading : Reading) (root b c : Box) (conds : Conds) → Reach (Same b c) (conds_mention root conds) → any_truth reading root b conds ≡ any_truth reading root c conds
  same_any reading root b c no_cond reach = refl
  same_any reading root b c (condition cond later) reach =
      ap₂ or_truth (same_truth reading root b c cond (first (Same b c) (cond_mentions root cond) (conds_mention root later) reach))
      (same_any reading root b c later (second (Same b c) (cond_mentions root cond) (conds_mention root later) reach))

  same_tasks : (reading : Reading) (root b c : Box) (tasks : Tasks) → Reach (Same b c) (tasks_mention root tasks) → task_ends reading root b tasks ≡ task_ends reading root c tasks
  same_tasks reading root b c no_task reach = refl
  same_tasks reading root b c (task s d m later) reach =
      let behind = second (Same b c) (mentions root s) (mentions root d ++ (mentions root m ++ tasks_mention root later)) reach in
      let last = second (Same b c) (mentions root d) (mentions root m ++ tasks_mention root later) behind in
      one_task (whole b (form root s) (atoms reading root b s)) (whole b (form root d) (atoms reading root b d)) (whole b (form root m) (atoms reading root b m)) (task_ends reading root b later)
      (whole c (form root s) (atoms reading root c s)) (whole c (form root d) (atoms reading root c d)) (whole c (form root m) (atoms reading root c m)) (task_ends reading root c later)
      (by_atoms reading root b c s (first (Same b c) (mentions root s) (mentions root d ++ (mentions root m ++ tasks_mention root later)) reach)
      (same_atoms reading root b c s (first (Same b c) (mentions root s) (mentions root d ++ (mentions root m ++ tasks_mention root later)) reach)))
      (by_atoms reading root b c d (first (Same b c) (mentions root d) (mentions root m ++ tasks_mention root later) behind)
      (same_atoms reading root b c d (first (Same b c) (mentions root d) (mentions root m ++ tasks_mention root later) behind)))
      (by_atoms reading root b c m (first (Same b c) (mentions root m) (tasks_mention root later) last)
      (same_atoms reading root b c m (first (Same b c) (mentions root m) (tasks_mention root later) last)))
      (same_tasks reading root b c later (second (Same b c) (mentions root m) (tasks_mention root later) last))

  same_task_mark : (reading : Reading) (root b c : Box) (tasks : Tasks) → Reach (Same b c) (tasks_mention root tasks) → task_mark reading root b tasks ≡ task_mark reading root c tasks
  same_task_mark reading root b c no_task reach = refl
  same_task_mark reading root b c (task s d m later) reach =
      let behind = second (Same b c) (mentions root s) (mentions root d ++ (mentions root m ++ tasks_mention root later)) reach in
      let last = second (Same b c) (mentions root d) (mentions root m ++ tasks_mention root later) behind in
      ap₂ both (same_mark reading root b c s (first (Same b c) (mentions root s) (mentions root d ++ (mentions root m ++ tasks_mention root later)) reach))
      (ap₂ both (same_mark reading root b c d (first (Same b c) (mentions root d) (mentions root m ++ tasks_mention root later) behind))
      (ap₂ both (same_mark reading root b c m (first (Same b c) (mentions root m) (tasks_mention root later) last))
      (same_task_mark reading root b c later (second (Same b c) (mentions root m) (tasks_mention root later) last))))

-- the laws
pub intervals_agree : (reading : Reading) (root b c : Box) (t : Term) → BoxesAgree (mentions root t) b c → interval reading root b t ≡ interval reading root c t
intervals_agree reading root b c t agree =
    let reach = reach_all (Same b c) (mentions root t) agree in
    by_atoms reading root b c t reach (same_atoms reading root b c t reach)

pub marks_agree : (reading : Reading) (root b c : Box) (t : Term) → BoxesAgree (mentions root t) b c → mark reading root b t ≡ mark reading root c t
marks_agree reading root b c t agree = same_mark reading root b c t (reach_all (Same b c) (mentions root t) agree)

pub truths_agree : (reading : Reading) (root b c : Box) (cond : Cond) → BoxesAgree (cond_mentions root cond) b c → truth reading root b cond ≡ truth reading root c cond
truths_agree reading root b c cond agree = same_truth reading root b c cond (reach_all (Same b c) (cond_mentions root cond) agree)
