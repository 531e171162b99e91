-- `allDifferent` on a box of one point.
use Rattle.std.proofs.Common.{◌≡◌, inl, inr, ℕ, ◌+◌, ◌<◌, ◌≤◌, nat_lt, ℤ, int_le, Bool, true, false, ◌&&◌, List, [], ◌∷◌, length, arith, refl, sym, ap, subst}
use Rattle.std.specs.List.{filter, list_all, list_any}
use Rattle.std.specs.Int.{int_gap}
use Rattle.std.proofs.lemmas.Int.{ints}
use Rattle.std.proofs.lemmas.Bool.{and_from}
use Rattle.sopl_base.proofs.Tests.{le_test, nat_test}
use Rattle.box_problem.proofs.Counts.{gap_leads}
use Rattle.term_language.specs.Ends.{Ends}
use Rattle.term_language.specs.Globals.{is_inside, are_crowded, never_differ, are_apart, always_differ}
use Rattle.term_language.proofs.FormValues.{by_if, by_bool}
use Rattle.term_language.proofs.DifferentParts.{Among, any_among}
use Rattle.term_language.proofs.Exactness.{IsOne, AllOne}

-- two intervals of one number each that are not apart are the same number
not_apart : (x y : Ends) → IsOne x → IsOne y → are_apart x y ≡ false → x.low ≡ y.low
not_apart x y p q near = grind (arith, ints)

-- a later one with the same number, where not all are apart from this one
a_twin : (x : Ends) (later : List Ends) → IsOne x → AllOne later → list_all (are_apart x) later ≡ false → (y : Ends) × Among y later × (y.low ≡ x.low) × IsOne y
a_twin x [] p all near = absurd (cc)
a_twin x (y ∷ later) p all near =
    by_bool (λ apart. (apart && list_all (are_apart x) later) ≡ false → (z : Ends) × Among z (y ∷ later) × (z.low ≡ x.low) × IsOne z) (are_apart x y)
    (λ apart rest_near. let rest = a_twin x later p all.1 rest_near in (rest.0, inr rest.1, rest.2, rest.3))
    (λ here rest_near. (y, inl refl, sym (not_apart x y p all.0 here), all.0))
    near

one_inside : (x : Ends) (later : List Ends) (z : ℤ) → Among x later → z ≡ x.low → IsOne x → 1 ≤ length (filter (is_inside z z) later)
one_inside x [] z among is one = absurd among
one_inside x (y ∷ later) z (inl here) is one =
    let same = ap (λ (e : Ends). e.low) here in
    let same_high = ap (λ (e : Ends). e.high) here in
    let inside = and_from (int_le z y.low) (int_le y.high z) (le_test z y.low (omega (arith, ints, same, is))) (le_test y.high z (omega (arith, ints, same_high, is, one))) in
    by_if (λ (es : List Ends). 1 ≤ length es) (is_inside z z y) (y ∷ filter (is_inside z z) later) (filter (is_inside z z) later)
    (λ met. omega arith) (λ unmet. absurd (cc))
one_inside x (y ∷ later) z (inr rest) is one =
    by_if (λ (es : List Ends). 1 ≤ length es) (is_inside z z y) (y ∷ filter (is_inside z z) later) (filter (is_inside z z) later)
    (λ met. omega arith) (λ unmet. one_inside x later z rest is one)

-- two with one number are one too many between it and itself
twins_crowd : (x : Ends) (later : List Ends) → IsOne x → (y : Ends) → Among y later → y.low ≡ x.low → IsOne y → 2 ≤ length (filter (is_inside x.low x.low) (x ∷ later))
twins_crowd x later p y among same q =
    let more = one_inside y later x.low among (sym same) q in
    let inside = and_from (int_le x.low x.low) (int_le x.high x.low) (le_test x.low x.low (omega (arith, ints))) (le_test x.high x.low (omega (arith, ints, p))) in
    by_if (λ (es : List Ends). 2 ≤ length es) (is_inside x.low x.low x) (x ∷ filter (is_inside x.low x.low) later) (filter (is_inside x.low x.low) later)
    (λ met. omega (arith, more)) (λ unmet. absurd (cc))

-- a number that two of the intervals are
record Twins (es : List Ends) : Type 0 where
  one : Ends
  among : Among one es
  is_one : IsOne one
  two : 2 ≤ length (filter (is_inside one.low one.low) es)

more_kept : (test : Ends → Bool) (e : Ends) (later : List Ends) (n : ℕ) → n ≤ length (filter test later) → n ≤ length (filter test (e ∷ later))
more_kept test e later n few =
    by_if (λ (es : List Ends). n ≤ length es) (test e) (e ∷ filter test later) (filter test later)
    (λ met. omega (arith, few)) (λ unmet. few)

twins : (es : List Ends) → AllOne es → always_differ es ≡ false → Twins es
twins [] all near = absurd (cc)
twins (x ∷ later) all near =
    by_bool (λ apart. list_all (are_apart x) later ≡ apart → (apart && always_differ later) ≡ false → Twins (x ∷ later)) (list_all (are_apart x) later)
    (λ apart is rest_near.
    let rest = twins later all.1 rest_near in
    record { one = rest.one; among = inr rest.among; is_one = rest.is_one; two = more_kept (is_inside rest.one.low rest.one.low) x later 2 rest.two })
    (λ here is rest_near.
    let twin = a_twin x later all.0 all.1 is in
    record { one = x; among = inl refl; is_one = all.0; two = twins_crowd x later all.0 twin.0 twin.1 twin.2 twin.3 })
    refl near

twins_never : (es : List Ends) → Twins es → never_differ es ≡ true
twins_never es t =
    let lead = gap_leads t.one.low t.one.high (omega (arith, ints, t.is_one)) in
    let same : t.one.low ≡ t.one.high = t.is_one in
    let few : int_gap t.one.low t.one.high + 1 < length (filter (is_inside t.one.low t.one.high) es) =
    subst (λ (z : ℤ). int_gap t.one.low z + 1 < length (filter (is_inside t.one.low z) es)) same (omega (arith, ints, t.two, gap_leads t.one.low t.one.low (omega (arith, ints)))) in
    any_among (λ (x : Ends). list_any (λ (y : Ends). are_crowded es x.low y.high) es) es t.one t.among
    (any_among (λ (y : Ends). are_crowded es t.one.low y.high) es t.one t.among
    (and_from (int_le t.one.low t.one.high) (nat_lt (int_gap t.one.low t.one.high + 1) (length (filter (is_inside t.one.low t.one.high) es)))
    (le_test t.one.low t.one.high (omega (arith, ints, same)))
    (nat_test (int_gap t.one.low t.one.high + 1) (length (filter (is_inside t.one.low t.one.high) es)) few)))

pub never_or_always : (es : List Ends) → AllOne es → never_differ es ≡ false → always_differ es ≡ true
never_or_always es all some =
    by_bool (λ always. always_differ es ≡ always → always ≡ true) (always_differ es)
    (λ always is. refl)
    (λ near is. let never = twins_never es (twins es all is) in absurd (cc))
    refl
