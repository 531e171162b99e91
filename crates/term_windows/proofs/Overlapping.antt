-- The search for an interval that has an end in a tight window and does not lie in it.
use Rattle.std.proofs.Common.{◌≡◌, ℕ, zero, suc, ◌+◌, ◌-◌, ◌<◌, ◌≤◌, ℤ, pos, Bool, true, false, not, ◌&&◌, ◌||◌, List, [], ◌∷◌, length, get_or, take, arith, refl, ap, sym, subst, ◌∙◌}
use Rattle.std.proofs.lemmas.Int.{ints}
use Rattle.std.proofs.lemmas.List.{get_or_default}
use Rattle.term_language.specs.Ends as rule
use Rattle.term_language.specs.Globals.{is_inside}
use Rattle.term_crowds.specs.Crowds.{at_low, at_high, HoldsWhole, HoldWhole, AreWholeFrom, LowsWhole}
use Rattle.term_crowds.proofs.Tight.{whole_at_first, whole_few, whole_next}
use Rattle.term_math.specs.Shown.{ends_of}
use Rattle.term_math.specs.declared.ends.Ends.{Ends}
use Rattle.term_windows.specs.declared.overlaps.Overlap.{Overlap}
use Rattle.term_windows.specs.declared.windows.Window.{Window}
use Rattle.term_windows.specs.Overlaps.{overlaps, interval_at, IsFirstIn, IsWidest, IsFirstOverlap}
use Rattle.term_windows.specs.Windows.{last_in, inside_in, spans}
use Rattle.term_windows.proofs.Crowding.{last_of}
use Rattle.term_windows.proofs.Slices.{length_spans}

-- whether one overlaps
outside : (low high all : Bool) → all ≡ true → ((low || high) && not all) ≡ false
outside true high true is = refl
outside false true true is = refl
outside false false true is = refl
outside low high false is = absurd (cc)

met_low : (low high all : Bool) → all ≡ false → low ≡ true → ((low || high) && not all) ≡ true
met_low true high false p q = refl
met_low true high true p q = absurd (cc)
met_low false high all p q = absurd (cc)

met_high : (low high all : Bool) → all ≡ false → low ≡ false → ((low || high) && not all) ≡ high
met_high false true false p q = refl
met_high false false false p q = refl
met_high low high true p q = absurd (cc)
met_high true high all p q = absurd (cc)

pub inside_whole : (a b : ℤ) (e : rule.Ends) (t : Bool) → t ≡ is_inside a b e → t ≡ true → overlaps a b e ≡ false
inside_whole a b e t told met = outside (is_inside a b (at_low e)) (is_inside a b (at_high e)) (is_inside a b e) (sym told ∙ met)

pub low_end_there : (a b : ℤ) (e : rule.Ends) (t s : Bool) → t ≡ is_inside a b e → t ≡ false → s ≡ is_inside a b (at_low e) → s ≡ true → overlaps a b e ≡ true
low_end_there a b e t s told unmet low met = met_low (is_inside a b (at_low e)) (is_inside a b (at_high e)) (is_inside a b e) (sym told ∙ unmet) (sym low ∙ met)

pub by_high_end : (a b : ℤ) (e : rule.Ends) (t s r : Bool) → t ≡ is_inside a b e → t ≡ false → s ≡ is_inside a b (at_low e) → s ≡ false → r ≡ is_inside a b (at_high e) → r ≡ overlaps a b e
by_high_end a b e t s r told unmet low not_low is =
    is ∙ sym (met_high (is_inside a b (at_low e)) (is_inside a b (at_high e)) (is_inside a b e) (sym told ∙ unmet) (sym low ∙ not_low))

-- what does not overlap is whole
whole_low : (low high all : Bool) → ((low || high) && not all) ≡ false → low ≡ true → all ≡ true
whole_low true high true p q = refl
whole_low true high false p q = absurd (cc)
whole_low false high all p q = absurd (cc)

whole_high : (low high all : Bool) → ((low || high) && not all) ≡ false → high ≡ true → all ≡ true
whole_high low true true p q = refl
whole_high true true false p q = absurd (cc)
whole_high false true false p q = absurd (cc)
whole_high low false all p q = absurd (cc)

holds_whole : (a b : ℤ) (e : rule.Ends) → overlaps a b e ≡ false → HoldsWhole a b e
holds_whole a b e none = record {
  low = whole_low (is_inside a b (at_low e)) (is_inside a b (at_high e)) (is_inside a b e) none;
  high = whole_high (is_inside a b (at_low e)) (is_inside a b (at_high e)) (is_inside a b e) none;
}

-- lists that grow at their end
hold_more : (a b : ℤ) (es : List rule.Ends) (i : ℕ) → i < length es → HoldWhole a b (take i es) → HoldsWhole a b (interval_at es i) → HoldWhole a b (take (suc i) es)
hold_more a b [] i there before here = absurd (omega (arith, there))
hold_more a b (e ∷ es) zero there before here = (here, tt)
hold_more a b (e ∷ es) (suc i) there before here = (before.0, hold_more a b es i (omega (arith, there)) before.1 here)

lows_more : (all es : List rule.Ends) (i : ℕ) → i < length es → LowsWhole all (take i es) → AreWholeFrom all (interval_at es i).low 0 → LowsWhole all (take (suc i) es)
lows_more all [] i there before here = absurd (omega (arith, there))
lows_more all (e ∷ es) zero there before here = (here, tt)
lows_more all (e ∷ es) (suc i) there before here = (before.0, lows_more all es i (omega (arith, there)) before.1 here)

all_taken : (es : List rule.Ends) (i : ℕ) → length es ≤ i → take i es ≡ es
all_taken [] zero past = refl
all_taken [] (suc i) past = refl
all_taken (e ∷ es) zero past = absurd (omega (arith, past))
all_taken (e ∷ es) (suc i) past = ap (λ xs. e ∷ xs) (all_taken es i (omega (arith, past)))

span_at : (xs : List Ends) (i : ℕ) (x : Ends) → i < length xs → x ≡ get_or xs i x → interval_at (spans xs) i ≡ ends_of x
span_at [] i x there at = absurd (omega (arith, there))
span_at (y ∷ ys) zero x there at = ap ends_of (sym at)
span_at (y ∷ ys) (suc i) x there at = span_at ys i x (omega (arith, there)) at

span_there : (xs : List Ends) (i : ℕ) → i < length xs → i < length (spans xs)
span_there xs i there = omega (arith, there, length_spans xs)

-- the interval at a place of a slice
abbrev pub own_interval_at : List Ends → ℕ → Ends
own_interval_at xs i = get_or xs i (record { low = pos 0; high = pos 0 })

pub interval_there : (xs : List Ends) (i : ℕ) → i < length xs → own_interval_at xs i ≡ get_or xs i (own_interval_at xs i)
interval_there xs i there = get_or_default xs i (record { low = pos 0; high = pos 0 }) (own_interval_at xs i) there

-- one interval after the other
pub next_holds : (w : Window) (xs : List Ends) (i : ℕ) (x : Ends) (t : Bool) → i < length xs → x ≡ get_or xs i x → t ≡ overlaps w.low (last_in w) (ends_of x) → t ≡ false
    → HoldWhole w.low (last_in w) (take i (spans xs)) → HoldWhole w.low (last_in w) (take (i + 1) (spans xs))
next_holds w xs i x t there at told unmet before =
    let same : suc i ≡ i + 1 = omega arith in
    subst (λ (n : ℕ). HoldWhole w.low (last_in w) (take n (spans xs))) same
    (hold_more w.low (last_in w) (spans xs) i (span_there xs i there) before
    (holds_whole w.low (last_in w) (interval_at (spans xs) i) (ap (overlaps w.low (last_in w)) (span_at xs i x there at) ∙ sym told ∙ unmet)))

pub first_in : (w : Window) (xs : List Ends) (i : ℕ) (x : Ends) (t : Bool) → i < length xs → x ≡ get_or xs i x → t ≡ overlaps w.low (last_in w) (ends_of x) → t ≡ true
    → HoldWhole w.low (last_in w) (take i (spans xs)) → IsFirstIn (spans xs) w.low (last_in w) i
first_in w xs i x t there at told met before = record {
  exists = span_there xs i there;
  overlaps = ap (overlaps w.low (last_in w)) (span_at xs i x there at) ∙ sym told ∙ met;
  before = before;
}

pub all_hold : (w : Window) (xs : List Ends) (i : ℕ) → length xs ≤ i → HoldWhole w.low (last_in w) (take i (spans xs)) → HoldWhole w.low (last_in w) (spans xs)
all_hold w xs i past before = subst (HoldWhole w.low (last_in w)) (all_taken (spans xs) i (omega (arith, past, length_spans xs))) before

-- windows that get narrower: no wider one that begins at the number is overlapped
pub record IsLooked (es : List rule.Ends) (a : ℤ) (w : Window) : Type 0 where
  pub low : w.low ≡ a
  pub whole : AreWholeFrom es a w.width

pub first_window : (xs : List Ends) (a : ℤ) (w : Window) → w.low ≡ a → w.width ≡ length xs → IsLooked (spans xs) a w
first_window xs a w low width = record { low = low; whole = whole_at_first (spans xs) a w.width (omega (arith, width, length_spans xs)) }

at_start : (es : List rule.Ends) (a : ℤ) (w : Window) → w.low ≡ a → inside_in w es ≡ inside_in (record { low = a; width = w.width }) es
at_start es a w low = ap (λ (z : ℤ). inside_in (record { low = z; width = w.width }) es) low

pub few_window : (es : List rule.Ends) (a : ℤ) (w next : Window) (count : ℕ) → IsLooked es a w → count ≡ inside_in w es → count < w.width → next.low ≡ w.low → next.width ≡ count → IsLooked es a next
few_window es a w next count looked counted few low width = record {
  low = low ∙ looked.low;
  whole =
      let v : Window = record { low = a; width = w.width } in
      subst (AreWholeFrom es a) (sym width) (whole_few es a (last_in v) w.width count (last_of v) (counted ∙ at_start es a w looked.low) few looked.whole);
}

pub next_window : (es : List rule.Ends) (a : ℤ) (w next : Window) → IsLooked es a w → 0 < w.width → HoldWhole w.low (last_in w) es → next.low ≡ w.low → next.width ≡ w.width - 1 → IsLooked es a next
next_window es a w next looked some here low width = record {
  low = low ∙ looked.low;
  whole =
      let v : Window = record { low = a; width = w.width } in
      let there : HoldWhole a (last_in v) es = subst (λ (z : ℤ). HoldWhole z (last_in (record { low = z; width = w.width })) es) looked.low here in
      whole_next es a (last_in v) w.width next.width (last_of v) (omega (arith, width, some)) there looked.whole;
}

pub widest : (es : List rule.Ends) (a : ℤ) (w : Window) (count place : ℕ) → IsLooked es a w → 0 < w.width → count ≡ inside_in w es → w.width ≤ count
    → IsFirstIn es w.low (last_in w) place → IsWidest es a (record { window = w; place = place })
widest es a w count place looked some counted full first = record {
  low = looked.low;
  wider = subst (λ (z : ℤ). AreWholeFrom es z w.width) (sym looked.low) looked.whole;
  tight = record { ordered = omega (arith, ints, some); full = omega (arith, ints, counted, full, some) };
  first = first;
}

pub none_wider : (es : List rule.Ends) (a : ℤ) (w : Window) → IsLooked es a w → w.width ≤ 0 → AreWholeFrom es a 0
none_wider es a w looked none = let zero_width : w.width ≡ 0 = omega (arith, none) in subst (AreWholeFrom es a) zero_width looked.whole

-- one lower end after the other
pub next_low : (all : List rule.Ends) (xs : List Ends) (i : ℕ) (x : Ends) → i < length xs → x ≡ get_or xs i x → AreWholeFrom all x.low 0 → LowsWhole all (take i (spans xs))
    → LowsWhole all (take (i + 1) (spans xs))
next_low all xs i x there at here before =
    let same : suc i ≡ i + 1 = omega arith in
    subst (λ (n : ℕ). LowsWhole all (take n (spans xs))) same
    (lows_more all (spans xs) i (span_there xs i there) before (subst (λ (e : rule.Ends). AreWholeFrom all e.low 0) (sym (span_at xs i x there at)) here))

pub first_low : (xs : List Ends) (i : ℕ) (x : Ends) (found : Overlap) → i < length xs → x ≡ get_or xs i x → IsWidest (spans xs) x.low found → LowsWhole (spans xs) (take i (spans xs))
    → IsFirstOverlap (spans xs) found
first_low xs i x found there at here before = record {
  from = i;
  exists = span_there xs i there;
  before = before;
  widest = subst (λ (e : rule.Ends). IsWidest (spans xs) e.low found) (sym (span_at xs i x there at)) here;
}

pub all_lows : (all : List rule.Ends) (xs : List Ends) (i : ℕ) → length xs ≤ i → LowsWhole all (take i (spans xs)) → LowsWhole all (spans xs)
all_lows all xs i past before = subst (LowsWhole all) (all_taken (spans xs) i (omega (arith, past, length_spans xs))) before
