-- One interval of several that gets smaller: what is crowded then was tight before.
use Rattle.std.proofs.Common.{◌≡◌, inl, inr, ℕ, ◌+◌, ◌<◌, ◌≤◌, nat_lt, ℤ, pos, ◌+ℤ◌, ◌≤ℤ◌, int_le, Bool, true, false, ◌&&◌, if◌then◌else◌, List, [], ◌∷◌, length, arith, refl, sym, ap, subst, ◌∙◌}
use Rattle.std.specs.List.{filter, list_any}
use Rattle.std.specs.Int.{int_gap}
use Rattle.std.specs.Ordering.{int_eq}
use Rattle.std.proofs.lemmas.Int.{ints, by_lt_z}
use Rattle.std.proofs.lemmas.Bool.{and_from, or_cases, or_from}
use Rattle.sopl_base.proofs.Tests.{equal_test, le_test, le_tested}
use Rattle.box_problem.proofs.Counts.{gap_leads}
use Rattle.term_language.specs.Ends.{Ends}
use Rattle.term_language.specs.Globals.{is_inside, are_crowded, never_differ}
use Rattle.term_language.proofs.FormValues.{by_bool, and_first, and_second}
use Rattle.term_crowds.specs.Crowds.{AllOrdered, inside_count, among, at_low, at_high, IsTight, IsClear, HoldsWhole, HoldWhole, AreWhole, AreWholeFrom, LowsWhole}
use Rattle.term_crowds.proofs.Counting.{nat_untested, count_most, count_wider, crowded_tested, crowded_test, tight_full, is_tight}
use Rattle.term_crowds.proofs.Crowding.{bottom_or, crowded_ends, gap_at_least}

-- what stands in the midst counts where it lies between the numbers
abbrev one_if : Bool → ℕ
one_if true = 1
one_if false = 0

count_one : (a b : ℤ) (e : Ends) (es : List Ends) → inside_count a b (e ∷ es) ≡ one_if (is_inside a b e) + inside_count a b es
count_one a b e es =
    by_bool (λ t. length (if t then e ∷ filter (is_inside a b) es else filter (is_inside a b) es) ≡ one_if t + inside_count a b es) (is_inside a b e)
    (λ met. omega arith) (λ unmet. omega arith)

count_among : (a b : ℤ) (before : List Ends) (e p : Ends) (after : List Ends)
    → inside_count a b (among before p after) + one_if (is_inside a b e) ≡ inside_count a b (among before e after) + one_if (is_inside a b p)
count_among a b [] e p after = omega (arith, count_one a b e after, count_one a b p after)
count_among a b (x ∷ before) e p after =
    omega (arith, count_one a b x (among before e after), count_one a b x (among before p after), count_among a b before e p after)

-- then nothing is crowded by it
pub still_uncrowded : (before : List Ends) (e p : Ends) (after : List Ends) → AllOrdered (among before e after) → never_differ (among before e after) ≡ false
    → IsClear (among before e after) e p → (a b : ℤ) → are_crowded (among before p after) a b ≡ false
still_uncrowded before e p after ordered never clear a b =
    by_bool (λ t. are_crowded (among before p after) a b ≡ t → are_crowded (among before p after) a b ≡ false) (are_crowded (among before p after) a b)
    (λ met is.
    let told = crowded_tested a b (among before p after) is in
    let counts = count_among a b before e p after in
    let fewer : inside_count a b (among before e after) ≤ int_gap a b + 1 = not_more a b told.0 in
    absurd (by_cases a b told.0 told.1 counts fewer))
    (λ unmet is. is)
    refl
  where
    not_more : (a b : ℤ) → a ≤ℤ b → inside_count a b (among before e after) ≤ int_gap a b + 1
    not_more a b order =
        by_bool (λ t. nat_lt (int_gap a b + 1) (inside_count a b (among before e after)) ≡ t → inside_count a b (among before e after) ≤ int_gap a b + 1)
        (nat_lt (int_gap a b + 1) (inside_count a b (among before e after)))
        (λ met is. absurd (let full = crowded_ends a b (among before e after) ordered (and_from (int_le a b) _ (le_test a b order) is) in let no = sym full ∙ never in cc))
        (λ unmet is. nat_untested (int_gap a b + 1) (inside_count a b (among before e after)) is)
        refl

    by_cases : (a b : ℤ) → a ≤ℤ b → int_gap a b + 1 < inside_count a b (among before p after)
        → inside_count a b (among before p after) + one_if (is_inside a b e) ≡ inside_count a b (among before e after) + one_if (is_inside a b p)
        → inside_count a b (among before e after) ≤ int_gap a b + 1 → ⊥
    by_cases a b order more counts fewer =
        by_bool (λ t. is_inside a b p ≡ t → ⊥) (is_inside a b p)
        (λ met is.
        let one : one_if (is_inside a b p) ≡ 1 = ap one_if is in
        let inside = clear.each a b (is_tight (among before e after) a b order (omega (arith, more, counts, one, fewer))) is in
        let also : one_if (is_inside a b e) ≡ 1 = ap one_if inside in
        omega (arith, more, counts, one, also, fewer))
        (λ unmet is.
        let zero : one_if (is_inside a b p) ≡ 0 = ap one_if is in
        omega (arith, more, counts, zero, fewer))
        refl

none_here : (all : List Ends) (a : ℤ) (fs : List Ends) → ((a b : ℤ) → are_crowded all a b ≡ false) → list_any (λ (y : Ends). are_crowded all a y.high) fs ≡ false
none_here all a [] none = refl
none_here all a (f ∷ fs) none =
    or_from (are_crowded all a f.high) (list_any (λ (y : Ends). are_crowded all a y.high) fs) (none a f.high) (none_here all a fs none)

uncrowded_list : (all es fs : List Ends) → ((a b : ℤ) → are_crowded all a b ≡ false) → list_any (λ (x : Ends). list_any (λ (y : Ends). are_crowded all x.low y.high) fs) es ≡ false
uncrowded_list all [] fs none = refl
uncrowded_list all (e ∷ es) fs none =
    or_from (list_any (λ (y : Ends). are_crowded all e.low y.high) fs) (list_any (λ (x : Ends). list_any (λ (y : Ends). are_crowded all x.low y.high) fs) es)
    (none_here all e.low fs none) (uncrowded_list all es fs none)

-- so they may differ as before
pub stays_open : (before : List Ends) (e p : Ends) (after : List Ends) → AllOrdered (among before e after) → never_differ (among before e after) ≡ false
    → IsClear (among before e after) e p → never_differ (among before p after) ≡ false
stays_open before e p after ordered never clear =
    uncrowded_list (among before p after) (among before p after) (among before p after) (still_uncrowded before e p after ordered never clear)

-- through a tight window that has the smaller interval and had not the larger one there always is a crowd
pub tight_closes : (before : List Ends) (larger smaller : Ends) (after : List Ends) (a b : ℤ) → AllOrdered (among before smaller after) → IsTight (among before larger after) a b
    → is_inside a b smaller ≡ true → is_inside a b larger ≡ false → never_differ (among before smaller after) ≡ true
tight_closes before e p after a b ordered tight inside out =
    let counts = count_among a b before e p after in
    let one : one_if (is_inside a b p) ≡ 1 = ap one_if inside in
    let zero : one_if (is_inside a b e) ≡ 0 = ap one_if out in
    crowded_ends a b (among before p after) ordered
    (crowded_test a b (among before p after) tight.ordered (omega (arith, tight_full (among before e after) a b tight, counts, one, zero)))

-- where nothing is crowded a tight window begins at a lower end
pub tight_low : (a b : ℤ) (es : List Ends) → AllOrdered es → never_differ es ≡ false → IsTight es a b
    → (test : ℤ → Bool) → test a ≡ true → list_any (λ (x : Ends). test x.low) es ≡ true
tight_low a b es ordered never tight test met =
    let full = tight_full es a b tight in
    elim (bottom_or a b es ordered) [
      | inl t ↦
          by_lt_z a t.bottom
          (λ above.
          let whole = gap_leads a b tight.ordered in let part = gap_leads t.bottom b t.within in
          let less : int_gap t.bottom b + 1 ≤ int_gap a b = omega (arith, ints, whole, part, above) in
          let crowd = crowded_ends t.bottom b es ordered (crowded_test t.bottom b es t.within (omega (arith, less, full, t.kept))) in
          absurd (let no : true ≡ false = sym crowd ∙ never in cc))
          (λ below. let same : a ≡ t.bottom = omega (arith, ints, below, t.from) in t.seen test (subst (λ z. test z ≡ true) same met))
      | inr none ↦ absurd (omega (arith, full, none))
    ]

pub begin_at_lows : (a b : ℤ) (es : List Ends) → AllOrdered es → never_differ es ≡ false → IsTight es a b → list_any (λ (x : Ends). int_eq x.low a) es ≡ true
begin_at_lows a b es ordered never tight = tight_low a b es ordered never tight (λ z. int_eq z a) (equal_test a)

-- what windows of different widths tell
pub whole_at_first : (es : List Ends) (a : ℤ) (n : ℕ) → length es ≤ n → AreWholeFrom es a n
whole_at_first es a n few = record {
  each = λ b far tight. absurd (omega (arith, few, tight_full es a b tight, count_most a b es, gap_at_least a b n far));
}

-- a window that is not tight tells it of all that are not narrower than it has intervals
pub whole_few : (es : List Ends) (a b : ℤ) (width count : ℕ) → b +ℤ pos 1 ≡ a +ℤ pos width → count ≡ inside_count a b es → count < width → AreWholeFrom es a width
    → AreWholeFrom es a count
whole_few es a b width count is counted few whole = record {
  each = λ c far tight.
      by_lt_z b c
      (λ past. whole.each c (omega (arith, ints, is, past)) tight)
      (λ within. absurd (omega (arith, counted, tight_full es a c tight, count_wider a c a b es (omega (arith, ints)) within, gap_at_least a c count far)));
}

-- and a window is looked at
pub whole_next : (es : List Ends) (a b : ℤ) (width next : ℕ) → b +ℤ pos 1 ≡ a +ℤ pos width → next + 1 ≡ width → HoldWhole a b es → AreWholeFrom es a width → AreWholeFrom es a next
whole_next es a b width next is less here whole = record {
  each = λ c far tight.
      by_lt_z b c
      (λ past. whole.each c (omega (arith, ints, is, past)) tight)
      (λ within. let same : b ≡ c = omega (arith, ints, is, less, far, within) in subst (λ z. HoldWhole a z es) same here);
}

-- all lower ends were looked at
low_whole : (all es : List Ends) (a : ℤ) → LowsWhole all es → list_any (λ (x : Ends). int_le x.low a && int_le a x.low) es ≡ true → AreWholeFrom all a 0
low_whole all [] a whole some = absurd (cc)
low_whole all (x ∷ es) a whole some =
    elim (or_cases (int_le x.low a && int_le a x.low) (list_any (λ (x : Ends). int_le x.low a && int_le a x.low) es) some) [
      | inl here ↦
          let below = le_tested x.low a (and_first (int_le x.low a) (int_le a x.low) here) in
          let above = le_tested a x.low (and_second (int_le x.low a) (int_le a x.low) here) in
          let same : x.low ≡ a = omega (arith, ints, below, above) in
          subst (λ z. AreWholeFrom all z 0) same whole.0
      | inr later ↦ low_whole all es a whole.1 later
    ]

pub lows_whole : (es : List Ends) → AllOrdered es → never_differ es ≡ false → LowsWhole es es → AreWhole es
lows_whole es ordered never whole = record {
  each = λ a b tight.
      let test : ℤ → Bool = λ z. int_le z a && int_le a z in
      let own : test a ≡ true = and_from (int_le a a) (int_le a a) (le_test a a (omega (arith, ints))) (le_test a a (omega (arith, ints))) in
      (low_whole es es a whole (tight_low a b es ordered never tight test own)).each b (omega (arith, ints, tight.ordered)) tight;
}

-- then no end of an interval may be taken away
among_whole : (a b : ℤ) (before : List Ends) (e : Ends) (after : List Ends) → HoldWhole a b (among before e after) → HoldsWhole a b e
among_whole a b [] e after whole = whole.0
among_whole a b (x ∷ before) e after whole = among_whole a b before e after whole.1

pub low_stays : (before : List Ends) (e : Ends) (after : List Ends) → AllOrdered (among before e after) → never_differ (among before e after) ≡ false → AreWhole (among before e after)
    → never_differ (among before (at_low e) after) ≡ false
low_stays before e after ordered never whole =
    stays_open before e (at_low e) after ordered never (record { each = λ a b tight. (among_whole a b before e after (whole.each a b tight)).low })

pub high_stays : (before : List Ends) (e : Ends) (after : List Ends) → AllOrdered (among before e after) → never_differ (among before e after) ≡ false → AreWhole (among before e after)
    → never_differ (among before (at_high e) after) ≡ false
high_stays before e after ordered never whole =
    stays_open before e (at_high e) after ordered never (record { each = λ a b tight. (among_whole a b before e after (whole.each a b tight)).high })

pub ends_stay : (before : List Ends) (e : Ends) (after : List Ends) → AllOrdered (among before e after) → never_differ (among before e after) ≡ false → AreWhole (among before e after)
    → (never_differ (among before (at_low e) after) ≡ false) × (never_differ (among before (at_high e) after) ≡ false)
ends_stay before e after ordered never whole = (low_stays before e after ordered never whole, high_stays before e after ordered never whole)
