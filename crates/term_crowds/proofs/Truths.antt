-- What both global conditions are over a box, by crowds and by times.
use Rattle.std.proofs.Common.{◌≡◌, ◌⊎◌, inl, inr, ◌↔◌, ℤ, pos, ◌+ℤ◌, ◌≤ℤ◌, int_lt, int_le, Bool, true, false, ◌&&◌, ◌||◌, if◌then◌else◌, List, [], ◌∷◌, map, arith, refl, ap, ◌∙◌}
use Rattle.std.specs.Int.{int_max}
use Rattle.std.proofs.lemmas.Int.{ints, clamps}
use Rattle.std.proofs.lemmas.Bool.{and_from, or_cases}
use Rattle.sopl_base.proofs.Tests.{le_test, le_tested, lt_test, lt_tested}
use Rattle.box_problem.specs.Box.{Box, IsBox, Inside}
use Rattle.term_language.specs.Ends.{Ends}
use Rattle.term_language.specs.Globals.{never_differ, always_differ, TaskEnds, total, least_asked, most_asked, never_fit, always_fit}
use Rattle.term_language.specs.Laws.{IsProper, AreProper, AreProperTasks}
use Rattle.term_language.specs.Marks.{both, all_marks, judged}
use Rattle.term_language.specs.Rules.{Reading, interval, intervals, mark, marks, task_ends, task_mark, truth}
use Rattle.term_language.specs.Terms.{Term, Terms, no_term, term, Tasks, no_task, task, AllDifferent, Cumulative}
use Rattle.term_language.specs.declared.answers.Defined.{Defined}
use Rattle.term_language.specs.declared.answers.Defined.TheVariants.{Never, Maybe, Always}
use Rattle.term_language.specs.declared.answers.Truth.TheVariants.{False, True}
use Rattle.term_language.proofs.FormValues.{by_bool, and_first, and_second}
use Rattle.term_language.proofs.Sharpening.{intervals_narrow}
use Rattle.term_language.proofs.Tasks.{SoundEnds, sound_ends}
use Rattle.term_crowds.specs.Crowds.{AllOrdered, HasCrowd, TasksOrdered, DemandsOrdered, some_negative, all_sound, HasPeak, IsEnough}
use Rattle.term_crowds.proofs.Crowding.{any_crowd, apart_uncrowded}
use Rattle.term_crowds.proofs.Times.{any_time, at_all_times}

-- what is judged
never_or : (m : Defined) (fails holds : Bool) → judged m fails holds ≡ False → (m ≡ Never) ⊎ (fails ≡ true)
never_or Never fails holds is = inl refl
never_or Maybe true holds is = inr refl
never_or Maybe false holds is = absurd (cc)
never_or Always true holds is = inr refl
never_or Always false true is = absurd (cc)
never_or Always false false is = absurd (cc)

pub judged_false : (m : Defined) (fails holds : Bool) → (m ≡ Never) ⊎ (fails ≡ true) → judged m fails holds ≡ False
judged_false Never fails holds either = refl
judged_false Maybe true holds either = refl
judged_false Always true holds either = refl
judged_false Maybe false holds either = elim either [
  | inl never ↦ absurd (cc)
  | inr fails ↦ absurd (cc)
]
judged_false Always false holds either = elim either [
  | inl never ↦ absurd (cc)
  | inr fails ↦ absurd (cc)
]

always_and : (m : Defined) (fails holds : Bool) → judged m fails holds ≡ True → (m ≡ Always) × (holds ≡ true)
always_and Never fails holds is = absurd (cc)
always_and Maybe true holds is = absurd (cc)
always_and Maybe false holds is = absurd (cc)
always_and Always true holds is = absurd (cc)
always_and Always false true is = (refl, refl)
always_and Always false false is = absurd (cc)

judged_true : (m : Defined) (fails holds : Bool) → m ≡ Always → fails ≡ false → holds ≡ true → judged m fails holds ≡ True
judged_true m fails holds marked may does =
    ap (λ (n : Defined). judged n fails holds) marked ∙ ap (λ (p : Bool). judged Always p holds) may ∙ ap (λ (p : Bool). judged Always false p) does

-- no interval is empty
pub ordered_intervals : (reading : Reading) (root b : Box) (ts : Terms) → IsBox root → Inside b root → AreProper ts → AllOrdered (intervals reading root b ts)
ordered_intervals reading root b no_term is_box inside proper = tt
ordered_intervals reading root b (term t later) is_box inside proper =
    ((intervals_narrow reading root b root t is_box inside proper.0).ordered, ordered_intervals reading root b later is_box inside proper.1)

pub ordered_tasks : (reading : Reading) (root b : Box) (ts : Tasks) → IsBox root → Inside b root → AreProperTasks ts → TasksOrdered (task_ends reading root b ts)
ordered_tasks reading root b no_task is_box inside proper = tt
ordered_tasks reading root b (task s d m later) is_box inside proper = (
  (intervals_narrow reading root b root s is_box inside proper.0).ordered,
  (
    (intervals_narrow reading root b root d is_box inside proper.1).ordered,
    ((intervals_narrow reading root b root m is_box inside proper.2).ordered, ordered_tasks reading root b later is_box inside proper.3),
  ),
)

pub ordered_demands : (ts : List TaskEnds) → TasksOrdered ts → DemandsOrdered ts
ordered_demands [] ordered = tt
ordered_demands (t ∷ ts) ordered = (ordered.1.1.0, ordered_demands ts ordered.1.1.1)

-- what surely is asked for may be asked for
at_most : (c d : Bool) (x y : ℤ) → (c ≡ true → d ≡ true) → x ≤ℤ y → pos 0 ≤ℤ y → (if c then x else pos 0) ≤ℤ (if d then y else pos 0)
at_most true true x y leads order some = order
at_most true false x y leads order some = absurd (let none : false ≡ true = leads refl in cc)
at_most false true x y leads order some = some
at_most false false x y leads order some = omega (arith, ints)

least_most : (time : ℤ) (t : TaskEnds) → t.start.low ≤ℤ t.start.high → t.duration.low ≤ℤ t.duration.high → t.demand.low ≤ℤ t.demand.high → pos 0 ≤ℤ t.duration.low → pos 0 ≤ℤ t.demand.low
    → least_asked time t ≤ℤ most_asked time t
least_most time t starts durations demands long some =
    at_most (int_le t.start.high time && int_lt time (t.start.low +ℤ int_max t.duration.low (pos 0))) (int_le t.start.low time && int_lt time (t.start.high +ℤ t.duration.high))
    (int_max t.demand.low (pos 0)) t.demand.high
    (λ is.
    let from = le_tested t.start.high time (and_first (int_le t.start.high time) (int_lt time (t.start.low +ℤ int_max t.duration.low (pos 0))) is) in
    let until = lt_tested time (t.start.low +ℤ int_max t.duration.low (pos 0)) (and_second (int_le t.start.high time) (int_lt time (t.start.low +ℤ int_max t.duration.low (pos 0))) is) in
    and_from (int_le t.start.low time) (int_lt time (t.start.high +ℤ t.duration.high)) (le_test t.start.low time (omega (arith, ints, from, starts)))
    (lt_test time (t.start.high +ℤ t.duration.high) (omega (arith, ints, clamps, until, starts, durations, long))))
    (omega (arith, ints, clamps, demands, some)) (omega (arith, ints, demands, some))

least_most_total : (time : ℤ) (ts : List TaskEnds) → TasksOrdered ts → SoundEnds ts → total (map (least_asked time) ts) ≤ℤ total (map (most_asked time) ts)
least_most_total time [] ordered sound = omega (arith, ints)
least_most_total time (t ∷ ts) ordered sound =
    omega (arith, ints, least_most time t ordered.0 ordered.1.0 ordered.1.1.0 sound.0 sound.1, least_most_total time ts ordered.1.1.1 sound.2)

none_negative : (ts : List TaskEnds) → TasksOrdered ts → SoundEnds ts → some_negative ts ≡ true → ⊥
none_negative [] ordered sound is = cc
none_negative (t ∷ ts) ordered sound is =
    elim (or_cases (int_lt t.duration.high (pos 0) || int_lt t.demand.high (pos 0)) (some_negative ts) is) [
      | inl here ↦
          elim (or_cases (int_lt t.duration.high (pos 0)) (int_lt t.demand.high (pos 0)) here) [
            | inl short ↦ omega (arith, ints, lt_tested t.duration.high (pos 0) short, ordered.1.0, sound.0)
            | inr less ↦ omega (arith, ints, lt_tested t.demand.high (pos 0) less, ordered.1.1.0, sound.1)
          ]
      | inr later ↦ none_negative ts ordered.1.1.1 sound.2 later
    ]

pub fitting_open : (ts : List TaskEnds) (capacity : Ends) → TasksOrdered ts → capacity.low ≤ℤ capacity.high → always_fit ts capacity ≡ true → never_fit ts capacity ≡ false
fitting_open ts capacity ordered order always =
    let parts = (at_all_times ts capacity (ordered_demands ts ordered)).0 always in
    let sound = sound_ends ts parts.0 in
    by_bool (λ t. never_fit ts capacity ≡ t → never_fit ts capacity ≡ false) (never_fit ts capacity)
    (λ met is.
    elim ((any_time ts capacity).0 is) [
      | inl negative ↦ absurd (none_negative ts ordered sound negative)
      | inr peak ↦ absurd (omega (arith, ints, peak.over, least_most_total peak.time ts ordered sound, parts.1.each peak.time, order))
    ])
    (λ unmet is. is)
    refl

-- both conditions
pub false_by_crowds : (reading : Reading) (root b : Box) (ts : Terms) → IsBox root → Inside b root → AreProper ts
    → (truth reading root b (AllDifferent ts) ≡ False) ↔ ((all_marks (marks reading root b ts) ≡ Never) ⊎ HasCrowd (intervals reading root b ts))
false_by_crowds reading root b ts is_box inside proper =
    let es = intervals reading root b ts in
    let m = all_marks (marks reading root b ts) in
    let same = any_crowd es (ordered_intervals reading root b ts is_box inside proper) in (
      λ closed.
          elim (never_or m (never_differ es) (always_differ es) closed) [
            | inl never ↦ inl never
            | inr fails ↦ inr (same.0 fails)
          ],
      λ either.
          elim either [
            | inl never ↦ judged_false m (never_differ es) (always_differ es) (inl never)
            | inr crowd ↦ judged_false m (never_differ es) (always_differ es) (inr (same.1 crowd))
          ],
    )

pub true_where_apart : (reading : Reading) (root b : Box) (ts : Terms) → IsBox root → Inside b root → AreProper ts
    → (truth reading root b (AllDifferent ts) ≡ True) ↔ ((all_marks (marks reading root b ts) ≡ Always) × (always_differ (intervals reading root b ts) ≡ true))
true_where_apart reading root b ts is_box inside proper =
    let es = intervals reading root b ts in
    let m = all_marks (marks reading root b ts) in (
      always_and m (never_differ es) (always_differ es),
      λ parts. judged_true m (never_differ es) (always_differ es) parts.0 (apart_uncrowded es (ordered_intervals reading root b ts is_box inside proper) parts.1) parts.1,
    )

pub false_by_peaks : (reading : Reading) (root b : Box) (ts : Tasks) (capacity : Term) → (truth reading root b (Cumulative ts capacity) ≡ False)
    ↔ ((both (task_mark reading root b ts) (mark reading root b capacity) ≡ Never)
    ⊎ ((some_negative (task_ends reading root b ts) ≡ true) ⊎ HasPeak (task_ends reading root b ts) (interval reading root b capacity)))
false_by_peaks reading root b ts capacity =
    let es = task_ends reading root b ts in
    let most = interval reading root b capacity in
    let m = both (task_mark reading root b ts) (mark reading root b capacity) in
    let same = any_time es most in (
      λ closed.
          elim (never_or m (never_fit es most) (always_fit es most) closed) [
            | inl never ↦ inl never
            | inr fails ↦ inr (same.0 fails)
          ],
      λ either.
          elim either [
            | inl never ↦ judged_false m (never_fit es most) (always_fit es most) (inl never)
            | inr peak ↦ judged_false m (never_fit es most) (always_fit es most) (inr (same.1 peak))
          ],
    )

pub true_where_enough : (reading : Reading) (root b : Box) (ts : Tasks) (capacity : Term) → IsBox root → Inside b root → AreProperTasks ts → IsProper capacity
    → (truth reading root b (Cumulative ts capacity) ≡ True)
    ↔ ((both (task_mark reading root b ts) (mark reading root b capacity) ≡ Always)
    × ((all_sound (task_ends reading root b ts) ≡ true) × IsEnough (task_ends reading root b ts) (interval reading root b capacity)))
true_where_enough reading root b ts capacity is_box inside proper proper_capacity =
    let es = task_ends reading root b ts in
    let least = interval reading root b capacity in
    let m = both (task_mark reading root b ts) (mark reading root b capacity) in
    let ordered = ordered_tasks reading root b ts is_box inside proper in
    let same = at_all_times es least (ordered_demands es ordered) in (
      λ holds.
          let parts = always_and m (never_fit es least) (always_fit es least) holds in
          (parts.0, same.0 parts.1),
      λ parts.
          let always = same.1 parts.1 in
          judged_true m (never_fit es least) (always_fit es least) parts.0
          (fitting_open es least ordered (intervals_narrow reading root b root capacity is_box inside proper_capacity).ordered always) always,
    )
