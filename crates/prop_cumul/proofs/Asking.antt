-- What the reason of a propagator closes.
use Rattle.std.proofs.Common.{◌≡◌, ◌∙◌, refl, ap, ap₂, sym, List, ◌∷◌}
use Rattle.sopl_base.specs.declared.reason.Reason.TheVariants.{Hard}
use Rattle.box_problem.specs.Box.{Box}
use Rattle.term_language.specs.Globals.{TaskEnds, always_fit, never_fit}
use Rattle.term_language.specs.Marks.{all_marks, both}
use Rattle.term_language.specs.Rules.{Near, interval, intervals, mark, marks, task_ends, task_mark, truth}
use Rattle.term_language.specs.Terms.{Term, Terms, Tasks, no_task, no_term, task, term, Cumulative}
use Rattle.term_language.specs.declared.answers.Defined.{Defined}
use Rattle.term_language.proofs.Marks.{both_always, both_grouped}
use Rattle.term_problem.specs.Refuted.{is_false}
use Rattle.term_program.specs.Globals.{tasks_then}
use Rattle.term_program.specs.Programs.{problem_in, root_in}
use Rattle.prop_shave.specs.Probes.{closes}
use Rattle.prop_shave.specs.declared.probes.Probe.{Probe}
use Rattle.prop_operands.specs.Questions.{IsAbout, is_refuted}
use Rattle.prop_operands.proofs.Asking.{hard_closes, judged_refuted}
use Rattle.prop_cumul.specs.Kinds.{Fits}
use Rattle.prop_cumul.specs.Profiles.{capacity_in, is_overfull_list, tasks_in}
use Rattle.prop_cumul.specs.declared.cumul.Cumul.{Cumul}

-- the mark of all operands
marks_then : (root b : Box) (tasks : Tasks) (capacity : Term)
    → all_marks (marks Near root b (tasks_then tasks (term capacity no_term))) ≡ both (task_mark Near root b tasks) (mark Near root b capacity)
marks_then root b no_task capacity = both_always (mark Near root b capacity)
marks_then root b (task s d m later) capacity =
    let x = mark Near root b s in
    let y = mark Near root b d in
    let z = mark Near root b m in
    let w = task_mark Near root b later in
    let c = mark Near root b capacity in
    ap (λ (n : Defined). both x (both y (both z n))) (marks_then root b later capacity)
    ∙ ap (λ (n : Defined). both x (both y n)) (sym (both_grouped z w c))
    ∙ ap (both x) (sym (both_grouped y (both z w) c))
    ∙ sym (both_grouped x (both y (both z w)) c)

-- the intervals of all operands
tasks_of_terms : (root b : Box) (tasks : Tasks) (capacity : Term) → tasks_in (intervals Near root b (tasks_then tasks (term capacity no_term))) ≡ task_ends Near root b tasks
tasks_of_terms root b no_task capacity = refl
tasks_of_terms root b (task s d m later) capacity =
    ap (λ (ts : List TaskEnds). record { start = interval Near root b s; duration = interval Near root b d; demand = interval Near root b m } ∷ ts) (tasks_of_terms root b later capacity)

capacity_of_terms : (root b : Box) (tasks : Tasks) (capacity : Term) → capacity_in (intervals Near root b (tasks_then tasks (term capacity no_term))) ≡ interval Near root b capacity
capacity_of_terms root b no_task capacity = refl
capacity_of_terms root b (task s d m later) capacity = capacity_of_terms root b later capacity

refuted_so : (root b : Box) (tasks : Tasks) (capacity : Term) → is_false (truth Near root b (Cumulative tasks capacity))
    ≡ is_refuted (all_marks (marks Near root b (tasks_then tasks (term capacity no_term)))) (is_overfull_list (intervals Near root b (tasks_then tasks (term capacity no_term))))
refuted_so root b tasks capacity =
    judged_refuted (both (task_mark Near root b tasks) (mark Near root b capacity)) (never_fit (task_ends Near root b tasks) (interval Near root b capacity))
    (always_fit (task_ends Near root b tasks) (interval Near root b capacity))
    ∙ ap₂ is_refuted (sym (marks_then root b tasks capacity)) (ap₂ never_fit (sym (tasks_of_terms root b tasks capacity)) (sym (capacity_of_terms root b tasks capacity)))

-- the condition is False over a box exactly where the reason closes it
pub about : (p : Cumul) (q : Probe) → Fits p q.program.now → q.reason ≡ Hard p.instance p.scenario → IsAbout is_overfull_list p.operands q
about p q fits own =
    let root = root_in q.program.now in
    record {
      operands = fits.operands;
      tells = λ b.
          hard_closes root (problem_in q.program.now) p.instance p.scenario q.reason (Cumulative fits.condition.tasks fits.condition.capacity) b q.best own fits.condition.condition
          ∙ refuted_so root b fits.condition.tasks fits.condition.capacity
          ∙ ap (λ (ts : Terms). is_refuted (all_marks (marks Near root b ts)) (is_overfull_list (intervals Near root b ts))) (sym fits.condition.terms);
    }
