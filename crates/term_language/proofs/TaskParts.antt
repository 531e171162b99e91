-- `cumulative` over a part of a box, and on a box of one point.
use Rattle.std.proofs.Common.{◌≡◌, inl, inr, ℤ, pos, ◌+ℤ◌, ◌≤ℤ◌, ◌<ℤ◌, int_lt, int_le, Bool, true, false, ◌&&◌, ◌||◌, List, [], ◌∷◌, map, arith, refl, ap, subst}
use Rattle.std.specs.List.{list_all, list_any}
use Rattle.std.specs.Int.{int_max}
use Rattle.std.proofs.lemmas.Int.{ints, clamps}
use Rattle.std.proofs.lemmas.Bool.{and_from, or_cases, or_left, or_parts, or_right}
use Rattle.sopl_base.proofs.Tests.{le_test, le_tested, lt_test, lt_tested, lt_untested}
use Rattle.term_language.specs.declared.answers.Defined.{Defined}
use Rattle.term_language.specs.Ends.{Ends, Lies}
use Rattle.term_language.specs.Marks.{judged}
use Rattle.term_language.specs.Globals.{TaskEnds, total, least_asked, most_asked, is_overfull, never_fit, is_enough, always_fit}
use Rattle.term_language.specs.Values.{TaskValues, task_values}
use Rattle.term_language.specs.Laws.{Within, Sharper, Surer}
use Rattle.term_language.proofs.FormValues.{by_if, by_bool, and_first, and_second}
use Rattle.term_language.proofs.Narrowing.{surer_judged}
use Rattle.term_language.proofs.Exactness.{IsOne}
use Rattle.term_language.proofs.Peaks.{Span, taken_by, NoneNegative, FitAtStarts, fit_always}
use Rattle.term_language.proofs.Tasks.{TasksLie, widest_of, most_is, SoundEnds, sound_ends, enough_fit, always_right, never_right, overfull_some}

-- tasks over a part
pub record TaskWithin (e f : TaskEnds) : Type 0 where
  pub start : Within e.start f.start
  pub duration : Within e.duration f.duration
  pub demand : Within e.demand f.demand

abbrev pub TasksWithin : List TaskEnds → List TaskEnds → Type 0
TasksWithin [] [] = Unit {0}
TasksWithin [] (f ∷ fs) = ⊥
TasksWithin (e ∷ es) [] = ⊥
TasksWithin (e ∷ es) (f ∷ fs) = TaskWithin e f × TasksWithin es fs

-- what is surely asked, as spans
abbrev surest : TaskEnds → Span
surest e = record { from = e.start.high; until = e.start.low +ℤ int_max e.duration.low (pos 0); amount = int_max e.demand.low (pos 0) }

abbrev surest_of : List TaskEnds → List Span
surest_of es = map surest es

least_is : (time : ℤ) (es : List TaskEnds) → total (map (least_asked time) es) ≡ taken_by time (surest_of es)
least_is time [] = refl
least_is time (e ∷ es) = ap (λ z. least_asked time e +ℤ z) (least_is time es)

surest_nonneg : (es : List TaskEnds) → NoneNegative (surest_of es)
surest_nonneg [] = tt
surest_nonneg (e ∷ es) = (omega (arith, ints, clamps), surest_nonneg es)

none_overfull : (capacity : Ends) (all es : List TaskEnds) → list_any (λ (t : TaskEnds). is_overfull all capacity t.start.high) es ≡ false → FitAtStarts capacity.high (surest_of all) (surest_of es)
none_overfull capacity all [] none = tt
none_overfull capacity all (e ∷ es) none =
    let parts = or_parts (is_overfull all capacity e.start.high) (list_any (λ (t : TaskEnds). is_overfull all capacity t.start.high) es) none in
    (subst (λ z. z ≤ℤ capacity.high) (least_is e.start.high all) (lt_untested capacity.high (total (map (least_asked e.start.high) all)) parts.0), none_overfull capacity all es parts.1)

-- over a part no less is surely asked, and no more may be
least_more : (time : ℤ) (e f : TaskEnds) → TaskWithin e f → least_asked time f ≤ℤ least_asked time e
least_more time e f p =
    by_if (λ z. z ≤ℤ least_asked time e) (int_le f.start.high time && int_lt time (f.start.low +ℤ int_max f.duration.low (pos 0))) (int_max f.demand.low (pos 0)) (pos 0)
    (λ sure.
    let from = le_tested f.start.high time (and_first (int_le f.start.high time) (int_lt time (f.start.low +ℤ int_max f.duration.low (pos 0))) sure) in
    let until = lt_tested time (f.start.low +ℤ int_max f.duration.low (pos 0)) (and_second (int_le f.start.high time) (int_lt time (f.start.low +ℤ int_max f.duration.low (pos 0))) sure) in
    let too = and_from (int_le e.start.high time) (int_lt time (e.start.low +ℤ int_max e.duration.low (pos 0)))
    (le_test e.start.high time (omega (arith, ints, from, p.start.to_high)))
    (lt_test time (e.start.low +ℤ int_max e.duration.low (pos 0)) (omega (arith, ints, clamps, until, p.start.from_low, p.duration.from_low))) in
    by_if (λ z. int_max f.demand.low (pos 0) ≤ℤ z) (int_le e.start.high time && int_lt time (e.start.low +ℤ int_max e.duration.low (pos 0))) (int_max e.demand.low (pos 0)) (pos 0)
    (λ met. omega (arith, ints, clamps, p.demand.from_low)) (λ unmet. absurd (cc)))
    (λ unsure.
    by_if (λ z. pos 0 ≤ℤ z) (int_le e.start.high time && int_lt time (e.start.low +ℤ int_max e.duration.low (pos 0))) (int_max e.demand.low (pos 0)) (pos 0)
    (λ met. omega (arith, ints, clamps)) (λ unmet. omega (arith, ints)))

least_sums : (time : ℤ) (es fs : List TaskEnds) → TasksWithin es fs → total (map (least_asked time) fs) ≤ℤ total (map (least_asked time) es)
least_sums time [] [] all = omega (arith, ints)
least_sums time [] (f ∷ fs) all = absurd all
least_sums time (e ∷ es) [] all = absurd all
least_sums time (e ∷ es) (f ∷ fs) all = omega (arith, ints, least_more time e f all.0, least_sums time es fs all.1)

most_less : (time : ℤ) (e f : TaskEnds) → TaskWithin e f → pos 0 ≤ℤ f.demand.low → most_asked time e ≤ℤ most_asked time f
most_less time e f p demand =
    by_if (λ z. z ≤ℤ most_asked time f) (int_le e.start.low time && int_lt time (e.start.high +ℤ e.duration.high)) e.demand.high (pos 0)
    (λ may.
    let from = le_tested e.start.low time (and_first (int_le e.start.low time) (int_lt time (e.start.high +ℤ e.duration.high)) may) in
    let until = lt_tested time (e.start.high +ℤ e.duration.high) (and_second (int_le e.start.low time) (int_lt time (e.start.high +ℤ e.duration.high)) may) in
    let too = and_from (int_le f.start.low time) (int_lt time (f.start.high +ℤ f.duration.high))
    (le_test f.start.low time (omega (arith, ints, from, p.start.from_low)))
    (lt_test time (f.start.high +ℤ f.duration.high) (omega (arith, ints, until, p.start.to_high, p.duration.to_high))) in
    by_if (λ z. e.demand.high ≤ℤ z) (int_le f.start.low time && int_lt time (f.start.high +ℤ f.duration.high)) f.demand.high (pos 0)
    (λ met. p.demand.to_high) (λ unmet. absurd (cc)))
    (λ may_not.
    by_if (λ z. pos 0 ≤ℤ z) (int_le f.start.low time && int_lt time (f.start.high +ℤ f.duration.high)) f.demand.high (pos 0)
    (λ met. omega (arith, ints, demand, p.demand.ordered, p.demand.from_low, p.demand.to_high)) (λ unmet. omega (arith, ints)))

most_sums : (time : ℤ) (es fs : List TaskEnds) → TasksWithin es fs → SoundEnds fs → total (map (most_asked time) es) ≤ℤ total (map (most_asked time) fs)
most_sums time [] [] all sound = omega (arith, ints)
most_sums time [] (f ∷ fs) all sound = absurd all
most_sums time (e ∷ es) [] all sound = absurd all
most_sums time (e ∷ es) (f ∷ fs) all sound = omega (arith, ints, most_less time e f all.0 sound.1, most_sums time es fs all.1 sound.2)

abbrev is_negative : TaskEnds → Bool
is_negative t = int_lt t.duration.high (pos 0) || int_lt t.demand.high (pos 0)

negative_narrower : (es fs : List TaskEnds) → TasksWithin es fs → list_any is_negative fs ≡ true → list_any is_negative es ≡ true
negative_narrower [] [] all some = some
negative_narrower [] (f ∷ fs) all some = absurd all
negative_narrower (e ∷ es) [] all some = absurd all
negative_narrower (e ∷ es) (f ∷ fs) all some =
    elim (or_cases (is_negative f) (list_any is_negative fs) some) [
      | inl here ↦ or_left (is_negative e) (list_any is_negative es) (elim (or_cases (int_lt f.duration.high (pos 0)) (int_lt f.demand.high (pos 0)) here) [
        | inl short ↦ or_left (int_lt e.duration.high (pos 0)) (int_lt e.demand.high (pos 0))
            (lt_test e.duration.high (pos 0) (omega (arith, ints, lt_tested f.duration.high (pos 0) short, all.0.duration.to_high)))
        | inr little ↦ or_right (int_lt e.duration.high (pos 0)) (int_lt e.demand.high (pos 0))
            (lt_test e.demand.high (pos 0) (omega (arith, ints, lt_tested f.demand.high (pos 0) little, all.0.demand.to_high)))
      ])
      | inr later ↦ or_right (is_negative e) (list_any is_negative es) (negative_narrower es fs all.1 later)
    ]

-- where the capacity is passed at some time it is below 0, or passed at a greatest start
overfull_at : (time : ℤ) (capacity : Ends) (es : List TaskEnds) → capacity.high <ℤ total (map (least_asked time) es)
    → (int_lt capacity.high (pos 0) || list_any (λ (t : TaskEnds). is_overfull es capacity t.start.high) es) ≡ true
overfull_at time capacity es over =
    by_bool (λ p. int_lt capacity.high (pos 0) ≡ p → (p || list_any (λ (t : TaskEnds). is_overfull es capacity t.start.high) es) ≡ true) (int_lt capacity.high (pos 0))
    (λ met is. refl)
    (λ unmet is.
    by_bool (λ p. list_any (λ (t : TaskEnds). is_overfull es capacity t.start.high) es ≡ p → p ≡ true) (list_any (λ (t : TaskEnds). is_overfull es capacity t.start.high) es)
    (λ met same. refl)
    (λ none same.
    let room = lt_untested capacity.high (pos 0) is in
    let fits = fit_always time capacity.high (surest_of es) (surest_nonneg es) room (none_overfull capacity es es same) in
    absurd (omega (arith, ints, fits, over, least_is time es)))
    refl)
    refl

never_narrower : (es fs : List TaskEnds) (a c : Ends) → TasksWithin es fs → Within a c → never_fit fs c ≡ true → never_fit es a ≡ true
never_narrower es fs a c all p never =
    elim (or_cases (list_any is_negative fs) (int_lt c.high (pos 0) || list_any (λ (t : TaskEnds). is_overfull fs c t.start.high) fs) never) [
      | inl negative ↦ or_left (list_any is_negative es) (int_lt a.high (pos 0) || list_any (λ (t : TaskEnds). is_overfull es a t.start.high) es) (negative_narrower es fs all negative)
      | inr other ↦ or_right (list_any is_negative es) (int_lt a.high (pos 0) || list_any (λ (t : TaskEnds). is_overfull es a t.start.high) es)
          (elim (or_cases (int_lt c.high (pos 0)) (list_any (λ (t : TaskEnds). is_overfull fs c t.start.high) fs) other) [
            | inl below ↦ or_left (int_lt a.high (pos 0)) (list_any (λ (t : TaskEnds). is_overfull es a t.start.high) es)
                (lt_test a.high (pos 0) (omega (arith, ints, lt_tested c.high (pos 0) below, p.to_high)))
            | inr full ↦
                let over = overfull_some c fs fs full in
                overfull_at over.0 a es (omega (arith, ints, over.1, least_sums over.0 es fs all, p.to_high))
          ])
    ]

-- what always fits over the whole always fits over the part
abbrev is_sound : TaskEnds → Bool
is_sound t = int_le (pos 0) t.duration.low && int_le (pos 0) t.demand.low

sound_narrower : (es fs : List TaskEnds) → TasksWithin es fs → SoundEnds fs → list_all is_sound es ≡ true
sound_narrower [] [] all sound = refl
sound_narrower [] (f ∷ fs) all sound = absurd all
sound_narrower (e ∷ es) [] all sound = absurd all
sound_narrower (e ∷ es) (f ∷ fs) all sound =
    and_from (is_sound e) (list_all is_sound es)
    (and_from (int_le (pos 0) e.duration.low) (int_le (pos 0) e.demand.low) (le_test (pos 0) e.duration.low (omega (arith, ints, sound.0, all.0.duration.from_low)))
    (le_test (pos 0) e.demand.low (omega (arith, ints, sound.1, all.0.demand.from_low))))
    (sound_narrower es fs all.1 sound.2)

widest_nonneg : (es fs : List TaskEnds) → TasksWithin es fs → SoundEnds fs → NoneNegative (widest_of fs)
widest_nonneg [] [] all sound = tt
widest_nonneg [] (f ∷ fs) all sound = absurd all
widest_nonneg (e ∷ es) [] all sound = absurd all
widest_nonneg (e ∷ es) (f ∷ fs) all sound =
    (omega (arith, ints, sound.1, all.0.demand.ordered, all.0.demand.from_low, all.0.demand.to_high), widest_nonneg es fs all.1 sound.2)

enough_each : (capacity : Ends) (all es : List TaskEnds) → ((time : ℤ) → total (map (most_asked time) all) ≤ℤ capacity.low) → list_all (λ (t : TaskEnds). is_enough all capacity t.start.low) es ≡ true
enough_each capacity all [] enough = refl
enough_each capacity all (e ∷ es) enough =
    and_from (is_enough all capacity e.start.low) (list_all (λ (t : TaskEnds). is_enough all capacity t.start.low) es)
    (le_test (total (map (most_asked e.start.low) all)) capacity.low (enough e.start.low)) (enough_each capacity all es enough)

always_narrower : (es fs : List TaskEnds) (a c : Ends) → TasksWithin es fs → Within a c → always_fit fs c ≡ true → always_fit es a ≡ true
always_narrower es fs a c all p always =
    let sound = sound_ends fs (and_first (list_all is_sound fs) (int_le (pos 0) c.low && list_all (λ (t : TaskEnds). is_enough fs c t.start.low) fs) always) in
    let rest = and_second (list_all is_sound fs) (int_le (pos 0) c.low && list_all (λ (t : TaskEnds). is_enough fs c t.start.low) fs) always in
    let room = le_tested (pos 0) c.low (and_first (int_le (pos 0) c.low) (list_all (λ (t : TaskEnds). is_enough fs c t.start.low) fs) rest) in
    let starts = enough_fit c fs fs (and_second (int_le (pos 0) c.low) (list_all (λ (t : TaskEnds). is_enough fs c t.start.low) fs) rest) in
    let nonneg = widest_nonneg es fs all sound in
    and_from (list_all is_sound es) (int_le (pos 0) a.low && list_all (λ (t : TaskEnds). is_enough es a t.start.low) es)
    (sound_narrower es fs all sound)
    (and_from (int_le (pos 0) a.low) (list_all (λ (t : TaskEnds). is_enough es a t.start.low) es) (le_test (pos 0) a.low (omega (arith, ints, room, p.from_low)))
    (enough_each a es es (λ time. omega (arith, ints, most_sums time es fs all sound, most_is time fs, fit_always time c.low (widest_of fs) nonneg room starts, p.from_low))))

-- not both, since some values lie in the intervals
abbrev lowest_values : List TaskEnds → List TaskValues
lowest_values es = map (λ (e : TaskEnds). task_values e.start.low e.duration.low e.demand.low) es

low_lies : (a c : Ends) → Within a c → Lies a.low a
low_lies a c p = record { from_low = omega (arith, ints); to_high = p.ordered }

lowest_lie : (es fs : List TaskEnds) → TasksWithin es fs → TasksLie (lowest_values es) es
lowest_lie [] [] all = tt
lowest_lie [] (f ∷ fs) all = absurd all
lowest_lie (e ∷ es) [] all = absurd all
lowest_lie (e ∷ es) (f ∷ fs) all =
    (record { start = low_lies e.start f.start all.0.start; duration = low_lies e.duration f.duration all.0.duration; demand = low_lies e.demand f.demand all.0.demand }, lowest_lie es fs all.1)

not_both : (es fs : List TaskEnds) (a c : Ends) → TasksWithin es fs → Within a c → always_fit es a ≡ true → never_fit es a ≡ false
not_both es fs a c all p always =
    let lie = lowest_lie es fs all in
    let lies = low_lies a c p in
    by_bool (λ never. never_fit es a ≡ never → never ≡ false) (never_fit es a)
    (λ met is. absurd (never_right (lowest_values es) a.low es a lie lies is (always_right (lowest_values es) a.low es a lie lies always)))
    (λ unmet is. refl)
    refl

pub surer_tasks : (m n : Defined) (es fs : List TaskEnds) (a c : Ends) → Sharper m n → TasksWithin es fs → Within a c
    → Surer (judged m (never_fit es a) (always_fit es a)) (judged n (never_fit fs c) (always_fit fs c))
surer_tasks m n es fs a c q all p =
    surer_judged m n (never_fit es a) (always_fit es a) (never_fit fs c) (always_fit fs c) q (never_narrower es fs a c all p) (always_narrower es fs a c all p) (not_both es fs a c all p)

-- on a point
pub record TaskOne (e : TaskEnds) : Type 0 where
  pub start : IsOne e.start
  pub duration : IsOne e.duration
  pub demand : IsOne e.demand

abbrev pub TasksOne : List TaskEnds → Type 0
TasksOne [] = Unit {0}
TasksOne (e ∷ es) = TaskOne e × TasksOne es

most_least : (time : ℤ) (e : TaskEnds) → TaskOne e → pos 0 ≤ℤ e.duration.high → most_asked time e ≤ℤ least_asked time e
most_least time e one duration =
    by_if (λ z. z ≤ℤ least_asked time e) (int_le e.start.low time && int_lt time (e.start.high +ℤ e.duration.high)) e.demand.high (pos 0)
    (λ may.
    let from = le_tested e.start.low time (and_first (int_le e.start.low time) (int_lt time (e.start.high +ℤ e.duration.high)) may) in
    let until = lt_tested time (e.start.high +ℤ e.duration.high) (and_second (int_le e.start.low time) (int_lt time (e.start.high +ℤ e.duration.high)) may) in
    let sure = and_from (int_le e.start.high time) (int_lt time (e.start.low +ℤ int_max e.duration.low (pos 0)))
    (le_test e.start.high time (omega (arith, ints, from, one.start)))
    (lt_test time (e.start.low +ℤ int_max e.duration.low (pos 0)) (omega (arith, ints, clamps, until, one.start, one.duration))) in
    by_if (λ z. e.demand.high ≤ℤ z) (int_le e.start.high time && int_lt time (e.start.low +ℤ int_max e.duration.low (pos 0))) (int_max e.demand.low (pos 0)) (pos 0)
    (λ met. omega (arith, ints, clamps, one.demand)) (λ unmet. absurd (cc)))
    (λ may_not.
    by_if (λ z. pos 0 ≤ℤ z) (int_le e.start.high time && int_lt time (e.start.low +ℤ int_max e.duration.low (pos 0))) (int_max e.demand.low (pos 0)) (pos 0)
    (λ met. omega (arith, ints, clamps)) (λ unmet. omega (arith, ints)))

most_least_sums : (time : ℤ) (es : List TaskEnds) → TasksOne es → list_any is_negative es ≡ false → total (map (most_asked time) es) ≤ℤ total (map (least_asked time) es)
most_least_sums time [] one none = omega (arith, ints)
most_least_sums time (e ∷ es) one none =
    let parts = or_parts (is_negative e) (list_any is_negative es) none in
    let here = or_parts (int_lt e.duration.high (pos 0)) (int_lt e.demand.high (pos 0)) parts.0 in
    omega (arith, ints, most_least time e one.0 (lt_untested e.duration.high (pos 0) here.0), most_least_sums time es one.1 parts.1)

sound_at : (es : List TaskEnds) → TasksOne es → list_any is_negative es ≡ false → list_all is_sound es ≡ true
sound_at [] one none = refl
sound_at (e ∷ es) one none =
    let parts = or_parts (is_negative e) (list_any is_negative es) none in
    let here = or_parts (int_lt e.duration.high (pos 0)) (int_lt e.demand.high (pos 0)) parts.0 in
    and_from (is_sound e) (list_all is_sound es)
    (and_from (int_le (pos 0) e.duration.low) (int_le (pos 0) e.demand.low) (le_test (pos 0) e.duration.low (omega (arith, ints, lt_untested e.duration.high (pos 0) here.0, one.0.duration)))
    (le_test (pos 0) e.demand.low (omega (arith, ints, lt_untested e.demand.high (pos 0) here.1, one.0.demand))))
    (sound_at es one.1 parts.1)

pub never_or_always : (es : List TaskEnds) (a : Ends) → TasksOne es → IsOne a → never_fit es a ≡ false → always_fit es a ≡ true
never_or_always es a one p some =
    let parts = or_parts (list_any is_negative es) (int_lt a.high (pos 0) || list_any (λ (t : TaskEnds). is_overfull es a t.start.high) es) some in
    let rest = or_parts (int_lt a.high (pos 0)) (list_any (λ (t : TaskEnds). is_overfull es a t.start.high) es) parts.1 in
    let room = lt_untested a.high (pos 0) rest.0 in
    let starts = none_overfull a es es rest.1 in
    and_from (list_all is_sound es) (int_le (pos 0) a.low && list_all (λ (t : TaskEnds). is_enough es a t.start.low) es)
    (sound_at es one parts.0)
    (and_from (int_le (pos 0) a.low) (list_all (λ (t : TaskEnds). is_enough es a t.start.low) es) (le_test (pos 0) a.low (omega (arith, ints, room, p)))
    (enough_each a es es (λ time. omega (arith, ints, most_least_sums time es one parts.0, least_is time es, fit_always time a.high (surest_of es) (surest_nonneg es) room starts, p))))
