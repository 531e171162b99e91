-- `cumulative`: tasks over intervals, and at a point.
use Rattle.std.proofs.Common.{◌≡◌, inl, inr, ℤ, pos, ◌+ℤ◌, ◌≤ℤ◌, ◌<ℤ◌, int_lt, int_le, Bool, true, false, ◌&&◌, ◌||◌, List, [], ◌∷◌, map, Option, Some, None, option_and_then}
use Rattle.std.proofs.Common.{IfSome, arith, refl, sym, ap, subst, ◌↔◌}
use Rattle.std.specs.List.{list_all, list_any}
use Rattle.std.specs.Int.{int_max}
use Rattle.std.proofs.lemmas.Int.{ints, clamps}
use Rattle.term_language.specs.declared.answers.Defined.{Defined}
use Rattle.term_language.specs.declared.answers.Defined.TheVariants.{Never, Maybe, Always}
use Rattle.term_language.specs.Ends.{Ends, Lies}
use Rattle.term_language.specs.Marks.{both, judged}
use Rattle.term_language.specs.Globals.{TaskEnds, total, least_asked, most_asked, is_overfull, never_fit, is_enough, always_fit}
use Rattle.term_language.specs.Values.{both_of, holds_of, TaskValues, task_values, asked, is_kept, do_fit}
use Rattle.term_language.specs.Laws.{Marks, Tells, IsSound}
use Rattle.std.specs.List as list
use Rattle.std.proofs.lemmas.List.Elements.{All-nil, All-cons, All-head, All-tail}
use Rattle.std.proofs.lemmas.Bool.{and_from, or_cases}
use Rattle.sopl_base.proofs.Tests.{le_test, le_tested, lt_test, lt_tested}
use Rattle.term_language.proofs.FormValues.{by_if, by_bool, and_first, and_second}
use Rattle.term_language.proofs.Layers.{marked_both, both_hold}
use Rattle.term_language.proofs.Conditions.{Decides, tells_judged}
use Rattle.term_language.proofs.Peaks.{Span, taken, taken_by, NoneNegative, FitAtStarts, fit_always}

-- a task's numbers lie in its intervals
pub record TaskLies (t : TaskValues) (e : TaskEnds) : Type 0 where
  pub start : Lies t.start e.start
  pub duration : Lies t.duration e.duration
  pub demand : Lies t.demand e.demand

abbrev pub TasksLie : List TaskValues → List TaskEnds → Type 0
TasksLie [] [] = Unit {0}
TasksLie [] (e ∷ es) = ⊥
TasksLie (t ∷ ts) [] = ⊥
TasksLie (t ∷ ts) (e ∷ es) = TaskLies t e × TasksLie ts es

-- the spans of tasks, and the widest spans that intervals allow
abbrev span_of : TaskValues → Span
span_of t = record { from = t.start; until = t.start +ℤ t.duration; amount = t.demand }

abbrev pub widest : TaskEnds → Span
widest e = record { from = e.start.low; until = e.start.high +ℤ e.duration.high; amount = e.demand.high }

abbrev spans_of : List TaskValues → List Span
spans_of ts = map span_of ts

abbrev pub widest_of : List TaskEnds → List Span
widest_of es = map widest es

asked_is : (time : ℤ) (ts : List TaskValues) → total (map (asked time) ts) ≡ taken_by time (spans_of ts)
asked_is time [] = refl
asked_is time (t ∷ ts) = ap (λ z. asked time t +ℤ z) (asked_is time ts)

pub most_is : (time : ℤ) (es : List TaskEnds) → total (map (most_asked time) es) ≡ taken_by time (widest_of es)
most_is time [] = refl
most_is time (e ∷ es) = ap (λ z. most_asked time e +ℤ z) (most_is time es)

-- what is tested of tasks, as facts
abbrev SoundValues : List TaskValues → Type 0
SoundValues [] = Unit {0}
SoundValues (t ∷ ts) = (pos 0 ≤ℤ t.duration) × (pos 0 ≤ℤ t.demand) × SoundValues ts

sound_values : (ts : List TaskValues) → list_all (λ (t : TaskValues). int_le (pos 0) t.duration && int_le (pos 0) t.demand) ts ≡ true → SoundValues ts
sound_values [] all = tt
sound_values (t ∷ ts) all =
    let here = and_first (int_le (pos 0) t.duration && int_le (pos 0) t.demand) (list_all (λ (t : TaskValues). int_le (pos 0) t.duration && int_le (pos 0) t.demand) ts) all in (
      le_tested (pos 0) t.duration (and_first (int_le (pos 0) t.duration) (int_le (pos 0) t.demand) here),
      le_tested (pos 0) t.demand (and_second (int_le (pos 0) t.duration) (int_le (pos 0) t.demand) here),
      sound_values ts (and_second (int_le (pos 0) t.duration && int_le (pos 0) t.demand) (list_all (λ (t : TaskValues). int_le (pos 0) t.duration && int_le (pos 0) t.demand) ts) all),
    )

test_values : (ts : List TaskValues) → SoundValues ts → list_all (λ (t : TaskValues). int_le (pos 0) t.duration && int_le (pos 0) t.demand) ts ≡ true
test_values [] all = refl
test_values (t ∷ ts) all =
    and_from (int_le (pos 0) t.duration && int_le (pos 0) t.demand) (list_all (λ (t : TaskValues). int_le (pos 0) t.duration && int_le (pos 0) t.demand) ts)
    (and_from (int_le (pos 0) t.duration) (int_le (pos 0) t.demand) (le_test (pos 0) t.duration all.0) (le_test (pos 0) t.demand all.1)) (test_values ts all.2)

values_nonneg : (ts : List TaskValues) → SoundValues ts → NoneNegative (spans_of ts)
values_nonneg [] all = tt
values_nonneg (t ∷ ts) all = (all.1, values_nonneg ts all.2)

kept_fit : (c : ℤ) (all ts : List TaskValues) → list_all (λ (t : TaskValues). is_kept c all t.start) ts ≡ true → FitAtStarts c (spans_of all) (spans_of ts)
kept_fit c all [] kept = tt
kept_fit c all (t ∷ ts) kept =
    let here = le_tested (total (map (asked t.start) all)) c (and_first (is_kept c all t.start) (list_all (λ (t : TaskValues). is_kept c all t.start) ts) kept) in
    (subst (λ z. z ≤ℤ c) (asked_is t.start all) here, kept_fit c all ts (and_second (is_kept c all t.start) (list_all (λ (t : TaskValues). is_kept c all t.start) ts) kept))

-- surely asked is no more than asked, and asked no more than may be
least_below : (time : ℤ) (t : TaskValues) (e : TaskEnds) → TaskLies t e → pos 0 ≤ℤ t.duration → pos 0 ≤ℤ t.demand → least_asked time e ≤ℤ asked time t
least_below time t e lies duration demand =
    by_if (λ z. z ≤ℤ asked time t) (int_le e.start.high time && int_lt time (e.start.low +ℤ int_max e.duration.low (pos 0))) (int_max e.demand.low (pos 0)) (pos 0)
    (λ sure.
    let from = le_tested e.start.high time (and_first (int_le e.start.high time) (int_lt time (e.start.low +ℤ int_max e.duration.low (pos 0))) sure) in
    let until = lt_tested time (e.start.low +ℤ int_max e.duration.low (pos 0)) (and_second (int_le e.start.high time) (int_lt time (e.start.low +ℤ int_max e.duration.low (pos 0))) sure) in
    let active = and_from (int_le t.start time) (int_lt time (t.start +ℤ t.duration))
    (le_test t.start time (omega (arith, ints, from, lies.start.to_high)))
    (lt_test time (t.start +ℤ t.duration) (omega (arith, ints, clamps, until, lies.start.from_low, lies.duration.from_low, duration))) in
    by_if (λ z. int_max e.demand.low (pos 0) ≤ℤ z) (int_le t.start time && int_lt time (t.start +ℤ t.duration)) t.demand (pos 0)
    (λ met. omega (arith, ints, clamps, lies.demand.from_low, demand)) (λ unmet. absurd (cc)))
    (λ unsure.
    by_if (λ z. pos 0 ≤ℤ z) (int_le t.start time && int_lt time (t.start +ℤ t.duration)) t.demand (pos 0)
    (λ met. demand) (λ unmet. omega (arith, ints)))

least_sum : (time : ℤ) (ts : List TaskValues) (es : List TaskEnds) → TasksLie ts es → SoundValues ts → total (map (least_asked time) es) ≤ℤ taken_by time (spans_of ts)
least_sum time [] [] lie sound = omega (arith, ints)
least_sum time [] (e ∷ es) lie sound = absurd lie
least_sum time (t ∷ ts) [] lie sound = absurd lie
least_sum time (t ∷ ts) (e ∷ es) lie sound =
    omega (arith, ints, least_below time t e lie.0 sound.0 sound.1, least_sum time ts es lie.1 sound.2)

most_above : (time : ℤ) (t : TaskValues) (e : TaskEnds) → TaskLies t e → pos 0 ≤ℤ e.demand.low → asked time t ≤ℤ most_asked time e
most_above time t e lies demand =
    by_if (λ z. z ≤ℤ most_asked time e) (int_le t.start time && int_lt time (t.start +ℤ t.duration)) t.demand (pos 0)
    (λ active.
    let from = le_tested t.start time (and_first (int_le t.start time) (int_lt time (t.start +ℤ t.duration)) active) in
    let until = lt_tested time (t.start +ℤ t.duration) (and_second (int_le t.start time) (int_lt time (t.start +ℤ t.duration)) active) in
    let may = and_from (int_le e.start.low time) (int_lt time (e.start.high +ℤ e.duration.high))
    (le_test e.start.low time (omega (arith, ints, from, lies.start.from_low)))
    (lt_test time (e.start.high +ℤ e.duration.high) (omega (arith, ints, until, lies.start.to_high, lies.duration.to_high))) in
    by_if (λ z. t.demand ≤ℤ z) (int_le e.start.low time && int_lt time (e.start.high +ℤ e.duration.high)) e.demand.high (pos 0)
    (λ met. lies.demand.to_high) (λ unmet. absurd (cc)))
    (λ inactive.
    by_if (λ z. pos 0 ≤ℤ z) (int_le e.start.low time && int_lt time (e.start.high +ℤ e.duration.high)) e.demand.high (pos 0)
    (λ met. omega (arith, ints, demand, lies.demand.from_low, lies.demand.to_high)) (λ unmet. omega (arith, ints)))

abbrev pub SoundEnds : List TaskEnds → Type 0
SoundEnds [] = Unit {0}
SoundEnds (e ∷ es) = (pos 0 ≤ℤ e.duration.low) × (pos 0 ≤ℤ e.demand.low) × SoundEnds es

pub sound_ends : (es : List TaskEnds) → list_all (λ (t : TaskEnds). int_le (pos 0) t.duration.low && int_le (pos 0) t.demand.low) es ≡ true → SoundEnds es
sound_ends [] all = tt
sound_ends (e ∷ es) all =
    let here = and_first (int_le (pos 0) e.duration.low && int_le (pos 0) e.demand.low) (list_all (λ (t : TaskEnds). int_le (pos 0) t.duration.low && int_le (pos 0) t.demand.low) es) all in (
      le_tested (pos 0) e.duration.low (and_first (int_le (pos 0) e.duration.low) (int_le (pos 0) e.demand.low) here),
      le_tested (pos 0) e.demand.low (and_second (int_le (pos 0) e.duration.low) (int_le (pos 0) e.demand.low) here),
      sound_ends es (and_second (int_le (pos 0) e.duration.low && int_le (pos 0) e.demand.low) (list_all (λ (t : TaskEnds). int_le (pos 0) t.duration.low && int_le (pos 0) t.demand.low) es) all),
    )

most_sum : (time : ℤ) (ts : List TaskValues) (es : List TaskEnds) → TasksLie ts es → SoundEnds es → taken_by time (spans_of ts) ≤ℤ taken_by time (widest_of es)
most_sum time [] [] lie sound = omega (arith, ints)
most_sum time [] (e ∷ es) lie sound = absurd lie
most_sum time (t ∷ ts) [] lie sound = absurd lie
most_sum time (t ∷ ts) (e ∷ es) lie sound =
    omega (arith, ints, most_above time t e lie.0 sound.1, most_sum time ts es lie.1 sound.2)

ends_nonneg : (ts : List TaskValues) (es : List TaskEnds) → TasksLie ts es → SoundEnds es → NoneNegative (widest_of es)
ends_nonneg [] [] lie sound = tt
ends_nonneg [] (e ∷ es) lie sound = absurd lie
ends_nonneg (t ∷ ts) [] lie sound = absurd lie
ends_nonneg (t ∷ ts) (e ∷ es) lie sound =
    (omega (arith, ints, sound.1, lie.0.demand.from_low, lie.0.demand.to_high), ends_nonneg ts es lie.1 sound.2)

pub enough_fit : (capacity : Ends) (all es : List TaskEnds) → list_all (λ (t : TaskEnds). is_enough all capacity t.start.low) es ≡ true → FitAtStarts capacity.low (widest_of all) (widest_of es)
enough_fit capacity all [] enough = tt
enough_fit capacity all (e ∷ es) enough =
    let here = le_tested (total (map (most_asked e.start.low) all)) capacity.low
    (and_first (is_enough all capacity e.start.low) (list_all (λ (t : TaskEnds). is_enough all capacity t.start.low) es) enough) in (
      subst (λ z. z ≤ℤ capacity.low) (most_is e.start.low all) here,
      enough_fit capacity all es (and_second (is_enough all capacity e.start.low) (list_all (λ (t : TaskEnds). is_enough all capacity t.start.low) es) enough),
    )

values_sound : (ts : List TaskValues) (es : List TaskEnds) → TasksLie ts es → SoundEnds es → SoundValues ts
values_sound [] [] lie sound = tt
values_sound [] (e ∷ es) lie sound = absurd lie
values_sound (t ∷ ts) [] lie sound = absurd lie
values_sound (t ∷ ts) (e ∷ es) lie sound =
    (omega (arith, ints, sound.0, lie.0.duration.from_low), omega (arith, ints, sound.1, lie.0.demand.from_low), values_sound ts es lie.1 sound.2)

-- tasks that always fit do fit
all_kept : (c : ℤ) (all ts : List TaskValues) → ((time : ℤ) → taken_by time (spans_of all) ≤ℤ c) → list_all (λ (t : TaskValues). is_kept c all t.start) ts ≡ true
all_kept c all [] fits = refl
all_kept c all (t ∷ ts) fits =
    and_from (is_kept c all t.start) (list_all (λ (t : TaskValues). is_kept c all t.start) ts)
    (le_test (total (map (asked t.start) all)) c (subst (λ z. z ≤ℤ c) (sym (asked_is t.start all)) (fits t.start))) (all_kept c all ts fits)

pub always_right : (ts : List TaskValues) (c : ℤ) (es : List TaskEnds) (capacity : Ends) → TasksLie ts es → Lies c capacity → always_fit es capacity ≡ true → do_fit ts c ≡ true
always_right ts c es capacity lie lies fit =
    let sound = sound_ends es (and_first (list_all (λ (t : TaskEnds). int_le (pos 0) t.duration.low && int_le (pos 0) t.demand.low) es)
    (int_le (pos 0) capacity.low && list_all (λ (t : TaskEnds). is_enough es capacity t.start.low) es) fit) in
    let rest = and_second (list_all (λ (t : TaskEnds). int_le (pos 0) t.duration.low && int_le (pos 0) t.demand.low) es)
    (int_le (pos 0) capacity.low && list_all (λ (t : TaskEnds). is_enough es capacity t.start.low) es) fit in
    let room = le_tested (pos 0) capacity.low (and_first (int_le (pos 0) capacity.low) (list_all (λ (t : TaskEnds). is_enough es capacity t.start.low) es) rest) in
    let starts = enough_fit capacity es es (and_second (int_le (pos 0) capacity.low) (list_all (λ (t : TaskEnds). is_enough es capacity t.start.low) es) rest) in
    let nonneg = ends_nonneg ts es lie sound in
    and_from (list_all (λ (t : TaskValues). int_le (pos 0) t.duration && int_le (pos 0) t.demand) ts) (int_le (pos 0) c && list_all (λ (t : TaskValues). is_kept c ts t.start) ts)
    (test_values ts (values_sound ts es lie sound))
    (and_from (int_le (pos 0) c) (list_all (λ (t : TaskValues). is_kept c ts t.start) ts) (le_test (pos 0) c (omega (arith, ints, room, lies.from_low)))
    (all_kept c ts ts (λ time. omega (arith, ints, most_sum time ts es lie sound, fit_always time capacity.low (widest_of es) nonneg room starts, lies.from_low))))

-- tasks that never fit do not
negative_some : (ts : List TaskValues) (es : List TaskEnds) → TasksLie ts es → SoundValues ts
    → list_any (λ (t : TaskEnds). int_lt t.duration.high (pos 0) || int_lt t.demand.high (pos 0)) es ≡ true → ⊥
negative_some [] [] lie sound some = cc
negative_some [] (e ∷ es) lie sound some = lie
negative_some (t ∷ ts) [] lie sound some = lie
negative_some (t ∷ ts) (e ∷ es) lie sound some =
    elim (or_cases (int_lt e.duration.high (pos 0) || int_lt e.demand.high (pos 0)) (list_any (λ (t : TaskEnds). int_lt t.duration.high (pos 0) || int_lt t.demand.high (pos 0)) es) some) [
      | inl here ↦ elim (or_cases (int_lt e.duration.high (pos 0)) (int_lt e.demand.high (pos 0)) here) [
        | inl short ↦ omega (arith, ints, lt_tested e.duration.high (pos 0) short, lie.0.duration.to_high, sound.0)
        | inr little ↦ omega (arith, ints, lt_tested e.demand.high (pos 0) little, lie.0.demand.to_high, sound.1)
      ]
      | inr later ↦ negative_some ts es lie.1 sound.2 later
    ]

pub overfull_some : (capacity : Ends) (all es : List TaskEnds) → list_any (λ (t : TaskEnds). is_overfull all capacity t.start.high) es ≡ true
    → (time : ℤ) × (capacity.high <ℤ total (map (least_asked time) all))
overfull_some capacity all [] some = absurd (cc)
overfull_some capacity all (e ∷ es) some =
    elim (or_cases (is_overfull all capacity e.start.high) (list_any (λ (t : TaskEnds). is_overfull all capacity t.start.high) es) some) [
      | inl here ↦ (e.start.high, lt_tested capacity.high (total (map (least_asked e.start.high) all)) here)
      | inr later ↦ overfull_some capacity all es later
    ]

pub never_right : (ts : List TaskValues) (c : ℤ) (es : List TaskEnds) (capacity : Ends) → TasksLie ts es → Lies c capacity → never_fit es capacity ≡ true → do_fit ts c ≡ true → ⊥
never_right ts c es capacity lie lies never fit =
    let sound = sound_values ts (and_first (list_all (λ (t : TaskValues). int_le (pos 0) t.duration && int_le (pos 0) t.demand) ts)
    (int_le (pos 0) c && list_all (λ (t : TaskValues). is_kept c ts t.start) ts) fit) in
    let rest = and_second (list_all (λ (t : TaskValues). int_le (pos 0) t.duration && int_le (pos 0) t.demand) ts) (int_le (pos 0) c && list_all (λ (t : TaskValues). is_kept c ts t.start) ts) fit in
    let room = le_tested (pos 0) c (and_first (int_le (pos 0) c) (list_all (λ (t : TaskValues). is_kept c ts t.start) ts) rest) in
    let starts = kept_fit c ts ts (and_second (int_le (pos 0) c) (list_all (λ (t : TaskValues). is_kept c ts t.start) ts) rest) in
    elim (or_cases (list_any (λ (t : TaskEnds). int_lt t.duration.high (pos 0) || int_lt t.demand.high (pos 0)) es)
    (int_lt capacity.high (pos 0) || list_any (λ (t : TaskEnds). is_overfull es capacity t.start.high) es) never) [
      | inl negative ↦ negative_some ts es lie sound negative
      | inr other ↦ elim (or_cases (int_lt capacity.high (pos 0)) (list_any (λ (t : TaskEnds). is_overfull es capacity t.start.high) es) other) [
        | inl below ↦ omega (arith, ints, lt_tested capacity.high (pos 0) below, lies.to_high, room)
        | inr full ↦
            let over = overfull_some capacity es es full in
            omega (arith, ints, over.1, least_sum over.0 ts es lie sound, fit_always over.0 c (spans_of ts) (values_nonneg ts sound) room starts, lies.to_high)
      ]
    ]

fits_decided : (ts : List TaskValues) (c : ℤ) (es : List TaskEnds) (capacity : Ends) → TasksLie ts es → Lies c capacity
    → Decides (never_fit es capacity) (always_fit es capacity) (λ fit. fit) (do_fit ts c)
fits_decided ts c es capacity lie lies = record {
  wrong = λ never. by_bool (λ fit. do_fit ts c ≡ fit → fit ≡ false) (do_fit ts c) (λ met is. absurd (never_right ts c es capacity lie lies never is)) (λ unmet is. refl) refl;
  right = λ always. always_right ts c es capacity lie lies always;
}

pub tells_tasks : (m n : Defined) (es : List TaskEnds) (capacity : Ends) (vs : Option (List TaskValues)) (c : Option ℤ) → Marks m vs → Marks n c → IfSome vs (λ ts. TasksLie ts es)
    → IfSome c (λ z. Lies z capacity) → Tells (judged (both m n) (never_fit es capacity) (always_fit es capacity)) (holds_of (λ fit. fit) (both_of do_fit vs c))
tells_tasks m n es capacity vs c p q lie lies =
    tells_judged (both m n) (never_fit es capacity) (always_fit es capacity) (λ fit. fit) (both_of do_fit vs c) (marked_both do_fit m n vs c p q)
    (both_hold do_fit (λ ts. TasksLie ts es) (λ z. Lies z capacity) (Decides (never_fit es capacity) (always_fit es capacity) (λ fit. fit)) vs c
    (λ ts z p_ts p_z. fits_decided ts z es capacity p_ts p_z) lie lies)

-- the values of a task and of those behind it
abbrev pub more_tasks : Option ℤ → Option ℤ → Option ℤ → Option (List TaskValues) → Option (List TaskValues)
more_tasks vs vd vm later = both_of (λ t ts. t ∷ ts) (option_and_then (λ s. both_of (task_values s) vd vm) vs) later

abbrev is_there : {A : Type 0} → Option A → Bool
is_there None = false
is_there (Some x) = true

same_mark : {A B : Type 0} (m : Defined) (v : Option A) (w : Option B) → is_there v ≡ is_there w → Marks m v → Marks m w
same_mark Never None None same p = tt
same_mark Never None (Some y) same p = absurd (cc)
same_mark Never (Some x) w same p = absurd p
same_mark Maybe v w same p = tt
same_mark Always None w same p = absurd p
same_mark Always (Some x) None same p = absurd (cc)
same_mark Always (Some x) (Some y) same p = tt

abbrev first : {A B : Type 0} → A → B → A
first x y = x

all_there : (vs vd vm : Option ℤ) (later : Option (List TaskValues)) → is_there (both_of first vs (both_of first vd (both_of first vm later))) ≡ is_there (more_tasks vs vd vm later)
all_there None vd vm later = refl
all_there (Some s) None vm later = refl
all_there (Some s) (Some d) None later = refl
all_there (Some s) (Some d) (Some m) None = refl
all_there (Some s) (Some d) (Some m) (Some ts) = refl

pub marked_tasks : (ms md mm ml : Defined) (vs vd vm : Option ℤ) (later : Option (List TaskValues)) → Marks ms vs → Marks md vd → Marks mm vm → Marks ml later
    → Marks (both ms (both md (both mm ml))) (more_tasks vs vd vm later)
marked_tasks ms md mm ml vs vd vm later p q r s =
    same_mark (both ms (both md (both mm ml))) (both_of first vs (both_of first vd (both_of first vm later))) (more_tasks vs vd vm later) (all_there vs vd vm later)
    (marked_both first ms (both md (both mm ml)) vs (both_of first vd (both_of first vm later)) p
    (marked_both first md (both mm ml) vd (both_of first vm later) q (marked_both first mm ml vm later r s)))

pub lie_tasks : (vs vd vm : Option ℤ) (later : Option (List TaskValues)) (e : TaskEnds) (es : List TaskEnds) → IfSome vs (λ x. Lies x e.start) → IfSome vd (λ x. Lies x e.duration)
    → IfSome vm (λ x. Lies x e.demand) → IfSome later (λ ts. TasksLie ts es) → IfSome (more_tasks vs vd vm later) (λ ts. TasksLie ts (e ∷ es))
lie_tasks None vd vm later e es p q r s = tt
lie_tasks (Some a) None vm later e es p q r s = tt
lie_tasks (Some a) (Some d) None later e es p q r s = tt
lie_tasks (Some a) (Some d) (Some m) None e es p q r s = tt
lie_tasks (Some a) (Some d) (Some m) (Some ts) e es p q r s = (record { start = p; duration = q; demand = r }, s)

pub record TasksRead (vs : Option (List TaskValues)) (es : List TaskEnds) (m : Defined) : Type 0 where
  pub lie : IfSome vs (λ ts. TasksLie ts es)
  pub marked : Marks m vs

-- tasks fit exactly where they are sound and fit at all times
sound_all : (ts : List TaskValues) → SoundValues ts → list.All IsSound ts
sound_all [] sound = All-nil IsSound
sound_all (t ∷ ts) sound = All-cons IsSound t ts (sound.0, sound.1) (sound_all ts sound.2)

all_sound : (ts : List TaskValues) → list.All IsSound ts → SoundValues ts
all_sound [] all = tt
all_sound (t ∷ ts) all =
    let here = All-head IsSound t ts all in
    (here.0, here.1, all_sound ts (All-tail IsSound t ts all))

nothing_taken : (time : ℤ) (spans : List Span) → NoneNegative spans → pos 0 ≤ℤ taken_by time spans
nothing_taken time [] nonneg = omega (arith, ints)
nothing_taken time (s ∷ later) nonneg =
    let rest = nothing_taken time later nonneg.1 in
    let here : pos 0 ≤ℤ taken time s = by_if (λ z. pos 0 ≤ℤ z) (int_le s.from time && int_lt time s.until) s.amount (pos 0) (λ met. nonneg.0) (λ unmet. omega (arith, ints)) in
    omega (arith, ints, rest, here)

fit_at_all : (ts : List TaskValues) (c : ℤ) → do_fit ts c ≡ true → list.All IsSound ts × ((time : ℤ) → total (map (asked time) ts) ≤ℤ c)
fit_at_all ts c fit =
    let sound = sound_values ts (and_first (list_all (λ (t : TaskValues). int_le (pos 0) t.duration && int_le (pos 0) t.demand) ts)
    (int_le (pos 0) c && list_all (λ (t : TaskValues). is_kept c ts t.start) ts) fit) in
    let rest = and_second (list_all (λ (t : TaskValues). int_le (pos 0) t.duration && int_le (pos 0) t.demand) ts) (int_le (pos 0) c && list_all (λ (t : TaskValues). is_kept c ts t.start) ts) fit in
    let room = le_tested (pos 0) c (and_first (int_le (pos 0) c) (list_all (λ (t : TaskValues). is_kept c ts t.start) ts) rest) in
    let starts = kept_fit c ts ts (and_second (int_le (pos 0) c) (list_all (λ (t : TaskValues). is_kept c ts t.start) ts) rest) in
    (sound_all ts sound, λ time. subst (λ z. z ≤ℤ c) (sym (asked_is time ts)) (fit_always time c (spans_of ts) (values_nonneg ts sound) room starts))

all_fit : (ts : List TaskValues) (c : ℤ) → list.All IsSound ts → ((time : ℤ) → total (map (asked time) ts) ≤ℤ c) → do_fit ts c ≡ true
all_fit ts c all fits =
    let sound = all_sound ts all in
    let some = nothing_taken (pos 0) (spans_of ts) (values_nonneg ts sound) in
    let first_time = subst (λ z. z ≤ℤ c) (asked_is (pos 0) ts) (fits (pos 0)) in
    and_from (list_all (λ (t : TaskValues). int_le (pos 0) t.duration && int_le (pos 0) t.demand) ts) (int_le (pos 0) c && list_all (λ (t : TaskValues). is_kept c ts t.start) ts)
    (test_values ts sound)
    (and_from (int_le (pos 0) c) (list_all (λ (t : TaskValues). is_kept c ts t.start) ts) (le_test (pos 0) c (omega (arith, ints, some, first_time)))
    (all_kept c ts ts (λ time. subst (λ z. z ≤ℤ c) (asked_is time ts) (fits time))))

pub tasks_fit_at_all_times : (tasks : List TaskValues) (capacity : ℤ) → do_fit tasks capacity ≡ true ↔ (list.All IsSound tasks × ((time : ℤ) → total (map (asked time) tasks) ≤ℤ capacity))
tasks_fit_at_all_times ts c = (fit_at_all ts c, λ both_of_them. all_fit ts c both_of_them.0 both_of_them.1)
