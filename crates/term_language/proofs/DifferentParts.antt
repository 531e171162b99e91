-- `allDifferent` over a part of a box.
use Rattle.std.proofs.Common.{◌≡◌, ◌⊎◌, inl, inr, ◌+◌, ◌<◌, ◌≤◌, nat_lt, ℤ, ◌≤ℤ◌, int_lt, int_le, Bool, true, false, ◌||◌, if◌then◌else◌, List, [], ◌∷◌, length, arith}
use Rattle.std.proofs.Common.{refl, sym, ap, subst, ◌∙◌}
use Rattle.std.specs.List.{filter, list_all, list_any}
use Rattle.std.specs.Int.{int_gap}
use Rattle.std.proofs.lemmas.Int.{ints, by_lt_z}
use Rattle.std.proofs.lemmas.Bool.{and_from, or_cases}
use Rattle.sopl_base.proofs.Tests.{le_test, le_tested, lt_test, lt_tested, nat_test, nat_tested}
use Rattle.box_problem.proofs.Counts.{gap_leads}
use Rattle.term_language.specs.declared.answers.Defined.{Defined}
use Rattle.term_language.specs.Ends.{Ends}
use Rattle.term_language.specs.Marks.{judged}
use Rattle.term_language.specs.Globals.{is_inside, are_crowded, never_differ, are_apart, always_differ}
use Rattle.term_language.specs.Laws.{Within, Sharper, Surer}
use Rattle.term_language.proofs.FormValues.{by_if, by_bool, and_first, and_second}
use Rattle.term_language.proofs.Different.{any_some, never_right, always_right}
use Rattle.term_language.proofs.ElementParts.{lows_of, lows_lie}
use Rattle.term_language.proofs.Narrowing.{AllWithin, surer_judged}

-- an interval is among others
abbrev pub Among : Ends → List Ends → Type 0
Among x [] = ⊥
Among x (y ∷ later) = (y ≡ x) ⊎ Among x later

among_kept : (test : Ends → Bool) (es : List Ends) (x : Ends) → Among x es → test x ≡ true → Among x (filter test es)
among_kept test [] x among passes = absurd among
among_kept test (e ∷ later) x (inl here) passes =
    by_if (Among x) (test e) (e ∷ filter test later) (filter test later)
    (λ met. inl here) (λ unmet. let met = ap test here ∙ passes in absurd (cc))
among_kept test (e ∷ later) x (inr rest) passes =
    by_if (Among x) (test e) (e ∷ filter test later) (filter test later)
    (λ met. inr (among_kept test later x rest passes)) (λ unmet. among_kept test later x rest passes)

kept_among : (test : Ends → Bool) (es : List Ends) (x : Ends) → Among x (filter test es) → Among x es × (test x ≡ true)
kept_among test [] x among = absurd among
kept_among test (e ∷ later) x among =
    by_if (λ (kept : List Ends). Among x kept → Among x (e ∷ later) × (test x ≡ true)) (test e) (e ∷ filter test later) (filter test later)
    (λ met some. elim some [
      | inl here ↦ (inl here, ap test (sym here) ∙ met)
      | inr rest ↦ let found = kept_among test later x rest in (inr found.0, found.1)
    ])
    (λ unmet some. let found = kept_among test later x some in (inr found.0, found.1))
    among

pub any_among : (test : Ends → Bool) (es : List Ends) (x : Ends) → Among x es → test x ≡ true → list_any test es ≡ true
any_among test [] x among passes = absurd among
any_among test (e ∷ later) x (inl here) passes = or_first (test e) (list_any test later) (ap test here ∙ passes)
  where
    or_first : (a b : Bool) → a ≡ true → (a || b) ≡ true
    or_first true b p = refl
    or_first false b p = absurd (cc)
any_among test (e ∷ later) x (inr rest) passes = or_second (test e) (list_any test later) (any_among test later x rest passes)
  where
    or_second : (a b : Bool) → b ≡ true → (a || b) ≡ true
    or_second true b p = refl
    or_second false b p = p

-- more are kept where each that passes the one test passes the other
count_more : (few many : Ends → Bool) (es : List Ends) → ((x : Ends) → Among x es → few x ≡ true → many x ≡ true) → length (filter few es) ≤ length (filter many es)
count_more few many [] goes = omega arith
count_more few many (e ∷ later) goes =
    let rest = count_more few many later (λ x among. goes x (inr among)) in
    by_bool (λ p. length (if p then e ∷ filter few later else filter few later) ≤ length (if many e then e ∷ filter many later else filter many later)) (few e)
    (λ met.
    by_bool (λ p. length (e ∷ filter few later) ≤ length (if p then e ∷ filter many later else filter many later)) (many e)
    (λ passes. omega (arith, rest))
    (λ fails. let passes = goes e (inl refl) met in absurd (cc)))
    (λ unmet.
    by_bool (λ p. length (filter few later) ≤ length (if p then e ∷ filter many later else filter many later)) (many e)
    (λ passes. omega (arith, rest)) (λ fails. rest))

inside_narrower : (a b : ℤ) (x y : Ends) → Within x y → is_inside a b y ≡ true → is_inside a b x ≡ true
inside_narrower a b x y p inside =
    let from = le_tested a y.low (and_first (int_le a y.low) (int_le y.high b) inside) in
    let to = le_tested y.high b (and_second (int_le a y.low) (int_le y.high b) inside) in
    and_from (int_le a x.low) (int_le x.high b) (le_test a x.low (omega (arith, ints, from, p.from_low))) (le_test x.high b (omega (arith, ints, to, p.to_high)))

more_inside : (a b : ℤ) (narrow wide : List Ends) → AllWithin narrow wide → length (filter (is_inside a b) wide) ≤ length (filter (is_inside a b) narrow)
more_inside a b [] [] all = omega arith
more_inside a b [] (y ∷ wide) all = absurd all
more_inside a b (x ∷ narrow) [] all = absurd all
more_inside a b (x ∷ narrow) (y ∷ wide) all =
    let rest = more_inside a b narrow wide all.1 in
    by_bool (λ p. length (if p then y ∷ filter (is_inside a b) wide else filter (is_inside a b) wide) ≤ length
    (if is_inside a b x then x ∷ filter (is_inside a b) narrow else filter (is_inside a b) narrow)) (is_inside a b y)
    (λ met.
    by_bool (λ p. length (y ∷ filter (is_inside a b) wide) ≤ length (if p then x ∷ filter (is_inside a b) narrow else filter (is_inside a b) narrow)) (is_inside a b x)
    (λ inside. omega (arith, rest))
    (λ outside. let inside = inside_narrower a b x y all.0 met in absurd (cc)))
    (λ unmet.
    by_bool (λ p. length (filter (is_inside a b) wide) ≤ length (if p then x ∷ filter (is_inside a b) narrow else filter (is_inside a b) narrow)) (is_inside a b x)
    (λ inside. omega (arith, rest)) (λ outside. rest))

-- one with the least lower end, and one with the greatest upper end
record Lowest (es : List Ends) : Type 0 where
  one : Ends
  among : Among one es
  least : (x : Ends) → Among x es → one.low ≤ℤ x.low

record Highest (es : List Ends) : Type 0 where
  one : Ends
  among : Among one es
  most : (x : Ends) → Among x es → x.high ≤ℤ one.high

lowest : (e : Ends) (later : List Ends) → Lowest (e ∷ later)
lowest e [] = record {
  one = e;
  among = inl refl;
  least = λ x among. elim among [ inl here ↦ subst (λ (y : Ends). e.low ≤ℤ y.low) here (omega (arith, ints)) | inr none ↦ absurd none ];
}
lowest e (f ∷ later) =
    let rest = lowest f later in
    by_lt_z rest.one.low e.low
    (λ below. record {
      one = rest.one;
      among = inr rest.among;
      least = λ x among. elim among [ inl here ↦ subst (λ (y : Ends). rest.one.low ≤ℤ y.low) here (omega (arith, ints)) | inr other ↦ rest.least x other ];
    })
    (λ above. record {
      one = e;
      among = inl refl;
      least = λ x among. elim among [ inl here ↦ subst (λ (y : Ends). e.low ≤ℤ y.low) here (omega (arith, ints)) | inr other ↦ omega (arith, ints, rest.least x other) ];
    })

highest : (e : Ends) (later : List Ends) → Highest (e ∷ later)
highest e [] = record {
  one = e;
  among = inl refl;
  most = λ x among. elim among [ inl here ↦ subst (λ (y : Ends). y.high ≤ℤ e.high) here (omega (arith, ints)) | inr none ↦ absurd none ];
}
highest e (f ∷ later) =
    let rest = highest f later in
    by_lt_z e.high rest.one.high
    (λ above. record {
      one = rest.one;
      among = inr rest.among;
      most = λ x among. elim among [ inl here ↦ subst (λ (y : Ends). y.high ≤ℤ rest.one.high) here (omega (arith, ints)) | inr other ↦ rest.most x other ];
    })
    (λ below. record {
      one = e;
      among = inl refl;
      most = λ x among. elim among [ inl here ↦ subst (λ (y : Ends). y.high ≤ℤ e.high) here (omega (arith, ints)) | inr other ↦ omega (arith, ints, rest.most x other) ];
    })

some_lowest : (es : List Ends) → 0 < length es → Lowest es
some_lowest [] some = absurd (omega arith)
some_lowest (e ∷ later) some = lowest e later

some_highest : (es : List Ends) → 0 < length es → Highest es
some_highest [] some = absurd (omega arith)
some_highest (e ∷ later) some = highest e later

among_ordered : (narrow wide : List Ends) (x : Ends) → AllWithin narrow wide → Among x narrow → x.low ≤ℤ x.high
among_ordered [] wide x all among = absurd among
among_ordered (a ∷ narrow) [] x all among = absurd all
among_ordered (a ∷ narrow) (c ∷ wide) x all (inl here) = subst (λ (y : Ends). y.low ≤ℤ y.high) here all.0.ordered
among_ordered (a ∷ narrow) (c ∷ wide) x all (inr rest) = among_ordered narrow wide x all.1 rest

-- where the whole is crowded, so is the part, between ends of its own
crowded_narrower : (a b : ℤ) (narrow wide : List Ends) → AllWithin narrow wide → are_crowded wide a b ≡ true → never_differ narrow ≡ true
crowded_narrower a b narrow wide all crowded =
    let order = le_tested a b (and_first (int_le a b) (nat_lt (int_gap a b + 1) (length (filter (is_inside a b) wide))) crowded) in
    let more = nat_tested (int_gap a b + 1) (length (filter (is_inside a b) wide)) (and_second (int_le a b) (nat_lt (int_gap a b + 1) (length (filter (is_inside a b) wide))) crowded) in
    let kept = filter (is_inside a b) narrow in
    let count = more_inside a b narrow wide all in
    let first = some_lowest kept (omega (arith, more, count)) in
    let last = some_highest kept (omega (arith, more, count)) in
    let first_in = kept_among (is_inside a b) narrow first.one first.among in
    let last_in = kept_among (is_inside a b) narrow last.one last.among in
    let from = le_tested a first.one.low (and_first (int_le a first.one.low) (int_le first.one.high b) first_in.1) in
    let to = le_tested last.one.high b (and_second (int_le a last.one.low) (int_le last.one.high b) last_in.1) in
    let ordered = among_ordered narrow wide first.one all first_in.0 in
    let spread : first.one.low ≤ℤ last.one.high = omega (arith, ints, ordered, last.most first.one first.among) in
    let inner = count_more (is_inside a b) (is_inside first.one.low last.one.high) narrow
    (λ x among inside.
    and_from (int_le first.one.low x.low) (int_le x.high last.one.high)
    (le_test first.one.low x.low (first.least x (among_kept (is_inside a b) narrow x among inside)))
    (le_test x.high last.one.high (last.most x (among_kept (is_inside a b) narrow x among inside)))) in
    let wide_gap = gap_leads a b order in
    let narrow_gap = gap_leads first.one.low last.one.high spread in
    let few : int_gap first.one.low last.one.high + 1 < length (filter (is_inside first.one.low last.one.high) narrow) = omega (arith, ints, more, count, inner, wide_gap, narrow_gap, from, to) in
    any_among (λ (x : Ends). list_any (λ (y : Ends). are_crowded narrow x.low y.high) narrow) narrow first.one first_in.0
    (any_among (λ (y : Ends). are_crowded narrow first.one.low y.high) narrow last.one last_in.0
    (and_from (int_le first.one.low last.one.high) (nat_lt (int_gap first.one.low last.one.high + 1) (length (filter (is_inside first.one.low last.one.high) narrow)))
    (le_test first.one.low last.one.high spread)
    (nat_test (int_gap first.one.low last.one.high + 1) (length (filter (is_inside first.one.low last.one.high) narrow)) few)))

never_narrower : (narrow wide : List Ends) → AllWithin narrow wide → never_differ wide ≡ true → never_differ narrow ≡ true
never_narrower narrow wide all never =
    let first = any_some (λ (x : Ends). list_any (λ (y : Ends). are_crowded wide x.low y.high) wide) wide never in
    let second = any_some (λ (y : Ends). are_crowded wide first.0.low y.high) wide first.1 in
    crowded_narrower first.0.low second.0.high narrow wide all second.1

apart_narrower : (a c x y : Ends) → Within a c → Within x y → are_apart c y ≡ true → are_apart a x ≡ true
apart_narrower a c x y p q apart =
    elim (or_cases (int_lt c.high y.low) (int_lt y.high c.low) apart) [
      | inl below ↦ or_first (int_lt a.high x.low) (int_lt x.high a.low) (lt_test a.high x.low (omega (arith, ints, lt_tested c.high y.low below, p.to_high, q.from_low)))
      | inr above ↦ or_second (int_lt a.high x.low) (int_lt x.high a.low) (lt_test x.high a.low (omega (arith, ints, lt_tested y.high c.low above, p.from_low, q.to_high)))
    ]
  where
    or_first : (a b : Bool) → a ≡ true → (a || b) ≡ true
    or_first true b p = refl
    or_first false b p = absurd (cc)

    or_second : (a b : Bool) → b ≡ true → (a || b) ≡ true
    or_second true b p = refl
    or_second false b p = p

all_apart_narrower : (a c : Ends) (narrow wide : List Ends) → Within a c → AllWithin narrow wide → list_all (are_apart c) wide ≡ true → list_all (are_apart a) narrow ≡ true
all_apart_narrower a c [] [] p all apart = refl
all_apart_narrower a c [] (y ∷ wide) p all apart = absurd all
all_apart_narrower a c (x ∷ narrow) [] p all apart = absurd all
all_apart_narrower a c (x ∷ narrow) (y ∷ wide) p all apart =
    and_from (are_apart a x) (list_all (are_apart a) narrow) (apart_narrower a c x y p all.0 (and_first (are_apart c y) (list_all (are_apart c) wide) apart))
    (all_apart_narrower a c narrow wide p all.1 (and_second (are_apart c y) (list_all (are_apart c) wide) apart))

always_narrower : (narrow wide : List Ends) → AllWithin narrow wide → always_differ wide ≡ true → always_differ narrow ≡ true
always_narrower [] [] all always = refl
always_narrower [] (y ∷ wide) all always = absurd all
always_narrower (x ∷ narrow) [] all always = absurd all
always_narrower (x ∷ narrow) (y ∷ wide) all always =
    and_from (list_all (are_apart x) narrow) (always_differ narrow) (all_apart_narrower x y narrow wide all.0 all.1 (and_first (list_all (are_apart y) wide) (always_differ wide) always))
    (always_narrower narrow wide all.1 (and_second (list_all (are_apart y) wide) (always_differ wide) always))

not_both_differ : (narrow wide : List Ends) → AllWithin narrow wide → always_differ narrow ≡ true → never_differ narrow ≡ false
not_both_differ narrow wide all always =
    let lie = lows_lie narrow wide all in
    by_bool (λ never. never ≡ false) (never_differ narrow)
    (λ never.
    let wrong = never_right narrow (lows_of narrow) lie never in
    let right = always_right narrow (lows_of narrow) lie always in
    absurd (cc))
    (λ other. refl)

pub surer_different : (m n : Defined) (narrow wide : List Ends) → Sharper m n → AllWithin narrow wide
    → Surer (judged m (never_differ narrow) (always_differ narrow)) (judged n (never_differ wide) (always_differ wide))
surer_different m n narrow wide p all =
    surer_judged m n (never_differ narrow) (always_differ narrow) (never_differ wide) (always_differ wide) p (never_narrower narrow wide all) (always_narrower narrow wide all)
    (not_both_differ narrow wide all)
