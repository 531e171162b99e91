-- Crowded intervals: any two numbers may be looked at, and how they are found.
use Rattle.std.proofs.Common.{◌≡◌, ◌⊎◌, inl, inr, ◌↔◌, ℕ, zero, suc, ◌+◌, ◌-◌, ◌<◌, ◌≤◌, nat_lt, ℤ, pos, ◌+ℤ◌, ◌≤ℤ◌, int_le, Bool, true, false, ◌&&◌, ◌||◌}
use Rattle.std.proofs.Common.{List, [], ◌∷◌, length, map, arith, refl, sym, ap, subst, ◌∙◌}
use Rattle.std.specs.List.{filter, list_any}
use Rattle.std.specs.Int.{int_gap}
use Rattle.std.proofs.lemmas.Int.{ints, by_lt_z}
use Rattle.std.proofs.lemmas.Bool.{and_from, or_cases, or_from, or_left, or_right}
use Rattle.sopl_base.proofs.Tests.{le_test, le_tested, le_untest, nat_tested}
use Rattle.box_problem.proofs.Counts.{gap_leads}
use Rattle.term_language.specs.Ends.{Ends}
use Rattle.term_language.specs.Globals.{is_inside, are_crowded, never_differ, always_differ}
use Rattle.term_language.proofs.FormValues.{by_bool, and_first, and_second}
use Rattle.term_language.proofs.Lists.{AllLie}
use Rattle.term_language.proofs.Different.{never_right, always_right}
use Rattle.term_crowds.specs.Crowds.{AllOrdered, inside_count, HasCrowd, NoneCrowded, is_found, some_found}
use Rattle.term_crowds.proofs.Counting.{nat_untested, count_in, count_out, count_any, count_most, count_wider, crowded_tested, crowded_test, uncrowded_test}

-- the greatest upper end of those that lie between two numbers
record Top (a b : ℤ) (es : List Ends) : Type 0 where
  top : ℤ
  from : a ≤ℤ top
  within : top ≤ℤ b
  seen : (test : ℤ → Bool) → test top ≡ true → list_any (λ (y : Ends). test y.high) es ≡ true
  kept : inside_count a b es ≤ inside_count a top es

-- and their least lower end
pub record Bottom (a b : ℤ) (es : List Ends) : Type 0 where
  pub bottom : ℤ
  pub from : a ≤ℤ bottom
  pub within : bottom ≤ℤ b
  pub seen : (test : ℤ → Bool) → test bottom ≡ true → list_any (λ (x : Ends). test x.low) es ≡ true
  pub kept : inside_count a b es ≤ inside_count bottom b es

top_or : (a b : ℤ) (es : List Ends) → AllOrdered es → Top a b es ⊎ (inside_count a b es ≡ 0)
top_or a b [] ordered = inr refl
top_or a b (e ∷ es) ordered =
    by_bool (λ t. is_inside a b e ≡ t → Top a b (e ∷ es) ⊎ (inside_count a b (e ∷ es) ≡ 0)) (is_inside a b e)
    (λ met is.
    let from : a ≤ℤ e.low = le_tested a e.low (and_first (int_le a e.low) (int_le e.high b) is) in
    let to : e.high ≤ℤ b = le_tested e.high b (and_second (int_le a e.low) (int_le e.high b) is) in
    let more = count_in a b e es is in
    elim (top_or a b es ordered.1) [
      | inl r ↦
          by_lt_z r.top e.high
          (λ above.
          let inside : is_inside a e.high e ≡ true = and_from (int_le a e.low) (int_le e.high e.high) (le_test a e.low from) (le_test e.high e.high (omega (arith, ints))) in
          inl (record {
            top = e.high;
            from = omega (arith, ints, ordered.0, from);
            within = to;
            seen = λ test is. or_left (test e.high) (list_any (λ (y : Ends). test y.high) es) is;
            kept = omega (arith, more, r.kept, count_wider a r.top a e.high es (omega (arith, ints)) (omega (arith, ints, above)), count_in a e.high e es inside);
          }))
          (λ below.
          let inside : is_inside a r.top e ≡ true = and_from (int_le a e.low) (int_le e.high r.top) (le_test a e.low from) (le_test e.high r.top below) in
          inl (record {
            top = r.top;
            from = r.from;
            within = r.within;
            seen = λ test is. or_right (test e.high) (list_any (λ (y : Ends). test y.high) es) (r.seen test is);
            kept = omega (arith, more, r.kept, count_in a r.top e es inside);
          }))
      | inr none ↦
          let inside : is_inside a e.high e ≡ true = and_from (int_le a e.low) (int_le e.high e.high) (le_test a e.low from) (le_test e.high e.high (omega (arith, ints))) in
          inl (record {
            top = e.high;
            from = omega (arith, ints, ordered.0, from);
            within = to;
            seen = λ test is. or_left (test e.high) (list_any (λ (y : Ends). test y.high) es) is;
            kept = omega (arith, more, none, count_in a e.high e es inside);
          })
    ])
    (λ unmet is.
    elim (top_or a b es ordered.1) [
      | inl r ↦ inl (record {
        top = r.top;
        from = r.from;
        within = r.within;
        seen = λ test is. or_right (test e.high) (list_any (λ (y : Ends). test y.high) es) (r.seen test is);
        kept = omega (arith, count_out a b e es is, r.kept, count_any a r.top e es);
      })
      | inr none ↦ inr (count_out a b e es is ∙ none)
    ])
    refl

pub bottom_or : (a b : ℤ) (es : List Ends) → AllOrdered es → Bottom a b es ⊎ (inside_count a b es ≡ 0)
bottom_or a b [] ordered = inr refl
bottom_or a b (e ∷ es) ordered =
    by_bool (λ t. is_inside a b e ≡ t → Bottom a b (e ∷ es) ⊎ (inside_count a b (e ∷ es) ≡ 0)) (is_inside a b e)
    (λ met is.
    let from : a ≤ℤ e.low = le_tested a e.low (and_first (int_le a e.low) (int_le e.high b) is) in
    let to : e.high ≤ℤ b = le_tested e.high b (and_second (int_le a e.low) (int_le e.high b) is) in
    let more = count_in a b e es is in
    let own : is_inside e.low b e ≡ true = and_from (int_le e.low e.low) (int_le e.high b) (le_test e.low e.low (omega (arith, ints))) (le_test e.high b to) in
    elim (bottom_or a b es ordered.1) [
      | inl r ↦
          by_lt_z e.low r.bottom
          (λ below.
          inl (record {
            bottom = e.low;
            from = from;
            within = omega (arith, ints, ordered.0, to);
            seen = λ test is. or_left (test e.low) (list_any (λ (x : Ends). test x.low) es) is;
            kept = omega (arith, more, r.kept, count_wider r.bottom b e.low b es (omega (arith, ints, below)) (omega (arith, ints)), count_in e.low b e es own);
          }))
          (λ above.
          let inside : is_inside r.bottom b e ≡ true = and_from (int_le r.bottom e.low) (int_le e.high b) (le_test r.bottom e.low above) (le_test e.high b to) in
          inl (record {
            bottom = r.bottom;
            from = r.from;
            within = r.within;
            seen = λ test is. or_right (test e.low) (list_any (λ (x : Ends). test x.low) es) (r.seen test is);
            kept = omega (arith, more, r.kept, count_in r.bottom b e es inside);
          }))
      | inr none ↦
          inl (record {
            bottom = e.low;
            from = from;
            within = omega (arith, ints, ordered.0, to);
            seen = λ test is. or_left (test e.low) (list_any (λ (x : Ends). test x.low) es) is;
            kept = omega (arith, more, none, count_in e.low b e es own);
          })
    ])
    (λ unmet is.
    elim (bottom_or a b es ordered.1) [
      | inl r ↦ inl (record {
        bottom = r.bottom;
        from = r.from;
        within = r.within;
        seen = λ test is. or_right (test e.low) (list_any (λ (x : Ends). test x.low) es) (r.seen test is);
        kept = omega (arith, count_out a b e es is, r.kept, count_any r.bottom b e es);
      })
      | inr none ↦ inr (count_out a b e es is ∙ none)
    ])
    refl

-- two numbers that are crowded are so up to some upper end
pub crowded_high : (a b : ℤ) (es : List Ends) → AllOrdered es → are_crowded es a b ≡ true → list_any (λ (y : Ends). are_crowded es a y.high) es ≡ true
crowded_high a b es ordered full =
    let told = crowded_tested a b es full in
    elim (top_or a b es ordered) [
      | inl t ↦
          t.seen (are_crowded es a)
          (crowded_test a t.top es t.from
          (let whole = gap_leads a b told.0 in let part = gap_leads a t.top t.from in
          let less : int_gap a t.top ≤ int_gap a b = omega (arith, ints, whole, part, t.within) in
          omega (arith, less, told.1, t.kept)))
      | inr none ↦ absurd (omega (arith, told.1, none))
    ]

-- and from some lower end on
pub crowded_ends : (a b : ℤ) (es : List Ends) → AllOrdered es → are_crowded es a b ≡ true → never_differ es ≡ true
crowded_ends a b es ordered full =
    let told = crowded_tested a b es full in
    elim (bottom_or a b es ordered) [
      | inl t ↦
          t.seen (λ low. list_any (λ (y : Ends). are_crowded es low y.high) es)
          (crowded_high t.bottom b es ordered
          (crowded_test t.bottom b es t.within
          (let whole = gap_leads a b told.0 in let part = gap_leads t.bottom b t.within in
          let less : int_gap t.bottom b ≤ int_gap a b = omega (arith, ints, whole, part, t.from) in
          omega (arith, less, told.1, t.kept))))
      | inr none ↦ absurd (omega (arith, told.1, none))
    ]

-- the windows that get narrower from a number on
pub gap_at_least : (a b : ℤ) (n : ℕ) → (a +ℤ pos n) ≤ℤ b → n ≤ int_gap a b
gap_at_least a b n far =
    let whole = gap_leads a b (omega (arith, ints)) in
    omega (arith, ints, whole)

pub none_at_first : (es : List Ends) (a : ℤ) (n : ℕ) → length es ≤ n → NoneCrowded es a n
none_at_first es a n few = record {
  each = λ b far. uncrowded_test a b es (omega (arith, few, count_most a b es, gap_at_least a b n far));
}

-- where a window has no more intervals than numbers, none is crowded from where its intervals would be too few
pub none_narrower : (es : List Ends) (a b : ℤ) (width count : ℕ) → b +ℤ pos 1 ≡ a +ℤ pos width → count ≡ inside_count a b es → count ≤ width → NoneCrowded es a width
    → NoneCrowded es a (count - 1)
none_narrower es a b width count is counted few none = record {
  each = λ c far.
      by_lt_z b c
      (λ past. none.each c (omega (arith, ints, is, past)))
      (λ within.
      uncrowded_test a c es (omega (arith, counted, count_wider a c a b es (omega (arith, ints)) within, gap_at_least a c (count - 1) far)));
}

none_of : (es all : List Ends) (a : ℤ) → NoneCrowded all a 0 → list_any (λ (y : Ends). are_crowded all a y.high) es ≡ false
none_of [] all a none = refl
none_of (e ∷ es) all a none =
    or_from (are_crowded all a e.high) (list_any (λ (y : Ends). are_crowded all a y.high) es)
    (by_lt_z e.high a
    (λ before. ap (λ (t : Bool). t && nat_lt (int_gap a e.high + 1) (length (filter (is_inside a e.high) all))) (le_untest a e.high before))
    (λ at. none.each e.high (omega (arith, ints, at))))
    (none_of es all a none)

pub none_crowded : (es : List Ends) (a : ℤ) → NoneCrowded es a 0 → list_any (λ (y : Ends). are_crowded es a y.high) es ≡ false
none_crowded es a none = none_of es es a none

-- where a window has more, some upper end tells it
pub some_crowded : (es : List Ends) (a b : ℤ) (width count : ℕ) → AllOrdered es → 0 < width → b +ℤ pos 1 ≡ a +ℤ pos width → count ≡ inside_count a b es → width < count
    → list_any (λ (y : Ends). are_crowded es a y.high) es ≡ true
some_crowded es a b width count ordered some is counted more =
    let order : a ≤ℤ b = omega (arith, ints, is, some) in
    let whole = gap_leads a b order in
    let wide : int_gap a b + 1 ≡ width = omega (arith, ints, whole, is, some) in
    crowded_high a b es ordered (crowded_test a b es order (omega (arith, wide, counted, more)))

-- intervals with no number in common are not crowded
lows_lie : (es : List Ends) → AllOrdered es → AllLie (map (λ (e : Ends). e.low) es) es
lows_lie [] ordered = tt
lows_lie (e ∷ es) ordered = (record { from_low = omega (arith, ints); to_high = ordered.0 }, lows_lie es ordered.1)

pub apart_uncrowded : (es : List Ends) → AllOrdered es → always_differ es ≡ true → never_differ es ≡ false
apart_uncrowded es ordered apart =
    let xs = map (λ (e : Ends). e.low) es in
    by_bool (λ t. never_differ es ≡ t → never_differ es ≡ false) (never_differ es)
    (λ met is.
    let no = never_right es xs (lows_lie es ordered) is in
    let yes = always_right es xs (lows_lie es ordered) apart in
    absurd (let both : true ≡ false = sym yes ∙ no in cc))
    (λ unmet is. is)
    refl

-- what never differs has a crowd, and what has one never differs
crowd_of_ends : (all es fs : List Ends) → list_any (λ (x : Ends). list_any (λ (y : Ends). are_crowded all x.low y.high) fs) es ≡ true → HasCrowd all
crowd_of_ends all [] fs some = absurd (cc)
crowd_of_ends all (e ∷ es) fs some =
    elim (or_cases (list_any (λ (y : Ends). are_crowded all e.low y.high) fs) (list_any (λ (x : Ends). list_any (λ (y : Ends). are_crowded all x.low y.high) fs) es) some) [
      | inl here ↦ from_low e.low fs here
      | inr later ↦ crowd_of_ends all es fs later
    ]
  where
    from_low : (a : ℤ) (ys : List Ends) → list_any (λ (y : Ends). are_crowded all a y.high) ys ≡ true → HasCrowd all
    from_low a [] none = absurd (cc)
    from_low a (y ∷ ys) some =
        elim (or_cases (are_crowded all a y.high) (list_any (λ (z : Ends). are_crowded all a z.high) ys) some) [
          | inl full ↦
              let told = crowded_tested a y.high all full in
              record { low = a; high = y.high; ordered = told.0; more = omega (arith, ints, gap_leads a y.high told.0, told.1) }
          | inr later ↦ from_low a ys later
        ]

pub any_crowd : (es : List Ends) → AllOrdered es → (never_differ es ≡ true) ↔ HasCrowd es
any_crowd es ordered = (
  λ never. crowd_of_ends es es es never,
  λ crowd.
      crowded_ends crowd.low crowd.high es ordered
      (crowded_test crowd.low crowd.high es crowd.ordered (omega (arith, ints, gap_leads crowd.low crowd.high crowd.ordered, crowd.more))),
)

-- the search in so many steps finds what is crowded from a number on
found_from : (steps : ℕ) (es : List Ends) (a : ℤ) (width : ℕ) → AllOrdered es → width ≤ steps → NoneCrowded es a width
    → is_found steps es a width ≡ list_any (λ (y : Ends). are_crowded es a y.high) es
found_from zero es a width ordered few none =
    let no : width ≡ 0 = omega (arith, few) in sym (none_crowded es a (subst (NoneCrowded es a) no none))
found_from (suc steps) es a zero ordered few none = sym (none_crowded es a none)
found_from (suc steps) es a (suc n) ordered few none =
    let last : ℤ = a +ℤ pos n in
    let count : ℕ = inside_count a last es in
    let at : last +ℤ pos 1 ≡ a +ℤ pos (suc n) = omega (arith, ints) in
    by_bool (λ t. nat_lt (suc n) count ≡ t → (t || is_found steps es a (count - 1)) ≡ list_any (λ (y : Ends). are_crowded es a y.high) es) (nat_lt (suc n) count)
    (λ met is. sym (some_crowded es a last (suc n) count ordered (omega arith) at refl (nat_tested (suc n) count is)))
    (λ unmet is.
    let fits : count ≤ suc n = nat_untested (suc n) count is in
    found_from steps es a (count - 1) ordered (omega (arith, few, fits)) (none_narrower es a last (suc n) count at refl fits none))
    refl

-- so from each lower end
found_lows : (all es : List Ends) → AllOrdered all → list_any (λ (x : Ends). is_found (length all) all x.low (length all)) es
    ≡ list_any (λ (x : Ends). list_any (λ (y : Ends). are_crowded all x.low y.high) all) es
found_lows all [] ordered = refl
found_lows all (e ∷ es) ordered =
    ap (λ t. t || list_any (λ (x : Ends). is_found (length all) all x.low (length all)) es)
    (found_from (length all) all e.low (length all) ordered (omega arith) (none_at_first all e.low (length all) (omega arith)))
    ∙ ap (λ t. list_any (λ (y : Ends). are_crowded all e.low y.high) all || t) (found_lows all es ordered)

pub windows_find : (es : List Ends) → AllOrdered es → some_found es ≡ never_differ es
windows_find es ordered = found_lows es es ordered
