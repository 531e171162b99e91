-- Tasks: any time may be looked at.
use Rattle.std.proofs.Common.{◌≡◌, ◌⊎◌, inl, inr, ◌↔◌, ℤ, pos, ◌+ℤ◌, ◌≤ℤ◌, int_lt, int_le, Bool, true, false, ◌&&◌, ◌||◌, List, [], ◌∷◌, map, arith, refl, sym, ap, subst}
use Rattle.std.specs.List.{list_all, list_any}
use Rattle.std.specs.Int.{int_max}
use Rattle.std.proofs.lemmas.Int.{ints, clamps}
use Rattle.std.proofs.lemmas.Bool.{and_from, or_cases, or_left as or_first}
use Rattle.sopl_base.proofs.Tests.{le_test, le_tested, lt_test, lt_tested, lt_untested}
use Rattle.term_language.specs.Ends.{Ends}
use Rattle.term_language.specs.Globals.{TaskEnds, total, least_asked, most_asked, is_overfull, never_fit, is_enough, always_fit}
use Rattle.term_language.proofs.FormValues.{by_if, by_bool, and_first, and_second}
use Rattle.term_language.proofs.Peaks.{Span, taken_by, NoneNegative, FitAtStarts, fit_always}
use Rattle.term_language.proofs.Tasks.{widest_of, most_is, enough_fit, sound_ends, SoundEnds}
use Rattle.term_crowds.specs.Crowds.{DemandsOrdered, some_negative, all_sound, HasPeak, IsEnough}

-- the span in which a task surely runs
abbrev pub surest : TaskEnds → Span
surest e = record { from = e.start.high; until = e.start.low +ℤ int_max e.duration.low (pos 0); amount = int_max e.demand.low (pos 0) }

abbrev pub surest_of : List TaskEnds → List Span
surest_of es = map surest es

pub least_is : (time : ℤ) (es : List TaskEnds) → total (map (least_asked time) es) ≡ taken_by time (surest_of es)
least_is time [] = refl
least_is time (e ∷ es) = ap (λ z. least_asked time e +ℤ z) (least_is time es)

surest_nonneg : (es : List TaskEnds) → NoneNegative (surest_of es)
surest_nonneg [] = tt
surest_nonneg (e ∷ es) = (omega (arith, ints, clamps), surest_nonneg es)

or_left : (a b : Bool) → (a || b) ≡ false → a ≡ false
or_left true b p = p
or_left false b p = refl

or_right : (a b : Bool) → (a || b) ≡ false → b ≡ false
or_right true b p = absurd (cc)
or_right false b p = p

no_peak : (capacity : Ends) (all es : List TaskEnds) → list_any (λ (t : TaskEnds). is_overfull all capacity t.start.high) es ≡ false → FitAtStarts capacity.high (surest_of all) (surest_of es)
no_peak capacity all [] none = tt
no_peak capacity all (e ∷ es) none =
    let here = or_left (is_overfull all capacity e.start.high) (list_any (λ (t : TaskEnds). is_overfull all capacity t.start.high) es) none in
    let later = or_right (is_overfull all capacity e.start.high) (list_any (λ (t : TaskEnds). is_overfull all capacity t.start.high) es) none in
    (subst (λ z. z ≤ℤ capacity.high) (least_is e.start.high all) (lt_untested capacity.high (total (map (least_asked e.start.high) all)) here), no_peak capacity all es later)

-- a capacity that is surely passed at any time is so at some greatest start, or is negative
pub overfull_ends : (es : List TaskEnds) (capacity : Ends) (time : ℤ) → is_overfull es capacity time ≡ true → never_fit es capacity ≡ true
overfull_ends es capacity time over =
    by_bool (λ t. never_fit es capacity ≡ t → never_fit es capacity ≡ true) (never_fit es capacity)
    (λ met is. is)
    (λ unmet is.
    let rest = or_right (list_any (λ (t : TaskEnds). int_lt t.duration.high (pos 0) || int_lt t.demand.high (pos 0)) es)
    (int_lt capacity.high (pos 0) || list_any (λ (t : TaskEnds). is_overfull es capacity t.start.high) es) is in
    let room = lt_untested capacity.high (pos 0) (or_left (int_lt capacity.high (pos 0)) (list_any (λ (t : TaskEnds). is_overfull es capacity t.start.high) es) rest) in
    let peaks = no_peak capacity es es (or_right (int_lt capacity.high (pos 0)) (list_any (λ (t : TaskEnds). is_overfull es capacity t.start.high) es) rest) in
    let fits = fit_always time capacity.high (surest_of es) (surest_nonneg es) room peaks in
    let more = lt_tested capacity.high (total (map (least_asked time) es)) over in
    absurd (omega (arith, ints, fits, more, least_is time es)))
    refl

-- what tasks may ask for is not negative
widest_nonneg : (es : List TaskEnds) → DemandsOrdered es → SoundEnds es → NoneNegative (widest_of es)
widest_nonneg [] ordered sound = tt
widest_nonneg (e ∷ es) ordered sound = (omega (arith, ints, ordered.0, sound.1), widest_nonneg es ordered.1 sound.2)

-- a capacity that surely is enough is so at all times
pub enough_always : (es : List TaskEnds) (capacity : Ends) (time : ℤ) → DemandsOrdered es → always_fit es capacity ≡ true → is_enough es capacity time ≡ true
enough_always es capacity time ordered always =
    let sound = and_first (list_all (λ (t : TaskEnds). int_le (pos 0) t.duration.low && int_le (pos 0) t.demand.low) es)
    (int_le (pos 0) capacity.low && list_all (λ (t : TaskEnds). is_enough es capacity t.start.low) es) always in
    let rest = and_second (list_all (λ (t : TaskEnds). int_le (pos 0) t.duration.low && int_le (pos 0) t.demand.low) es)
    (int_le (pos 0) capacity.low && list_all (λ (t : TaskEnds). is_enough es capacity t.start.low) es) always in
    let room = le_tested (pos 0) capacity.low (and_first (int_le (pos 0) capacity.low) (list_all (λ (t : TaskEnds). is_enough es capacity t.start.low) es) rest) in
    let fit = enough_fit capacity es es (and_second (int_le (pos 0) capacity.low) (list_all (λ (t : TaskEnds). is_enough es capacity t.start.low) es) rest) in
    let fits = fit_always time capacity.low (widest_of es) (widest_nonneg es ordered (sound_ends es sound)) room fit in
    le_test (total (map (most_asked time) es)) capacity.low (subst (λ z. z ≤ℤ capacity.low) (sym (most_is time es)) fits)

-- what surely is asked for is not negative
pub least_nonneg : (time : ℤ) (t : TaskEnds) → pos 0 ≤ℤ least_asked time t
least_nonneg time t =
    by_if (λ z. pos 0 ≤ℤ z) (int_le t.start.high time && int_lt time (t.start.low +ℤ int_max t.duration.low (pos 0))) (int_max t.demand.low (pos 0)) (pos 0)
    (λ met. omega (arith, ints, clamps)) (λ unmet. omega (arith, ints))

pub least_total : (time : ℤ) (ts : List TaskEnds) → pos 0 ≤ℤ total (map (least_asked time) ts)
least_total time [] = omega (arith, ints)
least_total time (t ∷ ts) = omega (arith, ints, least_nonneg time t, least_total time ts)

-- nor is what may be asked for, where no demand may be negative
pub most_nonneg : (time : ℤ) (t : TaskEnds) → t.demand.low ≤ℤ t.demand.high → pos 0 ≤ℤ t.demand.low → pos 0 ≤ℤ most_asked time t
most_nonneg time t ordered sound =
    by_if (λ z. pos 0 ≤ℤ z) (int_le t.start.low time && int_lt time (t.start.high +ℤ t.duration.high)) t.demand.high (pos 0)
    (λ met. omega (arith, ints, ordered, sound)) (λ unmet. omega (arith, ints))

pub most_total : (time : ℤ) (ts : List TaskEnds) → DemandsOrdered ts → SoundEnds ts → pos 0 ≤ℤ total (map (most_asked time) ts)
most_total time [] ordered sound = omega (arith, ints)
most_total time (t ∷ ts) ordered sound =
    omega (arith, ints, most_nonneg time t ordered.0 sound.1, most_total time ts ordered.1 sound.2)

some_peak : (all ts : List TaskEnds) (capacity : Ends) → list_any (λ (t : TaskEnds). is_overfull all capacity t.start.high) ts ≡ true → HasPeak all capacity
some_peak all [] capacity some = absurd (cc)
some_peak all (t ∷ ts) capacity some =
    elim (or_cases (is_overfull all capacity t.start.high) (list_any (λ (t : TaskEnds). is_overfull all capacity t.start.high) ts) some) [
      | inl here ↦ record { time = t.start.high; over = lt_tested capacity.high (total (map (least_asked t.start.high) all)) here }
      | inr later ↦ some_peak all ts capacity later
    ]

never_leads : (ts : List TaskEnds) (capacity : Ends) → never_fit ts capacity ≡ true → (some_negative ts ≡ true) ⊎ HasPeak ts capacity
never_leads ts capacity never =
    elim (or_cases (some_negative ts) (int_lt capacity.high (pos 0) || list_any (λ (t : TaskEnds). is_overfull ts capacity t.start.high) ts) never) [
      | inl negative ↦ inl negative
      | inr rest ↦
          elim (or_cases (int_lt capacity.high (pos 0)) (list_any (λ (t : TaskEnds). is_overfull ts capacity t.start.high) ts) rest) [
            | inl below ↦ inr (record { time = pos 0; over = omega (arith, ints, lt_tested capacity.high (pos 0) below, least_total (pos 0) ts) })
            | inr over ↦ inr (some_peak ts ts capacity over)
          ]
    ]

pub any_time : (ts : List TaskEnds) (capacity : Ends) → (never_fit ts capacity ≡ true) ↔ ((some_negative ts ≡ true) ⊎ HasPeak ts capacity)
any_time ts capacity = (
  never_leads ts capacity,
  λ either.
      elim either [
        | inl negative ↦ or_first (some_negative ts) (int_lt capacity.high (pos 0) || list_any (λ (t : TaskEnds). is_overfull ts capacity t.start.high) ts) negative
        | inr peak ↦ overfull_ends ts capacity peak.time (lt_test capacity.high (total (map (least_asked peak.time) ts)) peak.over)
      ],
)

-- tasks that always fit have none, and room at all times
enough_starts : (all ts : List TaskEnds) (capacity : Ends) → IsEnough all capacity → list_all (λ (t : TaskEnds). is_enough all capacity t.start.low) ts ≡ true
enough_starts all [] capacity enough = refl
enough_starts all (t ∷ ts) capacity enough =
    and_from (is_enough all capacity t.start.low) (list_all (λ (t : TaskEnds). is_enough all capacity t.start.low) ts)
    (le_test (total (map (most_asked t.start.low) all)) capacity.low (enough.each t.start.low)) (enough_starts all ts capacity enough)

pub at_all_times : (ts : List TaskEnds) (capacity : Ends) → DemandsOrdered ts → (always_fit ts capacity ≡ true) ↔ ((all_sound ts ≡ true) × IsEnough ts capacity)
at_all_times ts capacity ordered = (
  λ always. (
    and_first (all_sound ts) (int_le (pos 0) capacity.low && list_all (λ (t : TaskEnds). is_enough ts capacity t.start.low) ts) always,
    record { each = λ time. le_tested (total (map (most_asked time) ts)) capacity.low (enough_always ts capacity time ordered always) },
  ),
  λ parts.
      and_from (all_sound ts) (int_le (pos 0) capacity.low && list_all (λ (t : TaskEnds). is_enough ts capacity t.start.low) ts) parts.0
      (and_from (int_le (pos 0) capacity.low) (list_all (λ (t : TaskEnds). is_enough ts capacity t.start.low) ts)
      (le_test (pos 0) capacity.low (omega (arith, ints, most_total (pos 0) ts ordered (sound_ends ts parts.0), parts.1.each (pos 0))))
      (enough_starts ts ts capacity parts.1)),
)
