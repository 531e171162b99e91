-- `allDifferent`: too many values between two numbers, and intervals with no number in common.
use Rattle.std.proofs.Common.{◌≡◌, inl, inr, ℕ, zero, suc, ◌+◌, ◌≤◌, nat_lt, ℤ, pos, ◌+ℤ◌, ◌-ℤ◌, ◌≤ℤ◌, int_lt, int_le, Bool, true, false, not, ◌||◌, if◌then◌else◌}
use Rattle.std.proofs.Common.{List, [], ◌∷◌, length, Option, Some, None, IfSome, arith, refl, sym, subst}
use Rattle.std.specs.List.{filter, list_all, list_any}
use Rattle.std.specs.Int.{int_gap}
use Rattle.std.specs.Ordering.{int_eq}
use Rattle.std.proofs.lemmas.Int.{ints, by_lt_z}
use Rattle.std.proofs.lemmas.Bool.{and_from, or_cases}
use Rattle.sopl_base.proofs.Tests.{equal_tested, le_tested, lt_tested, nat_tested}
use Rattle.box_problem.proofs.Counts.{gap_leads}
use Rattle.term_language.specs.declared.answers.Defined.{Defined}
use Rattle.term_language.specs.Ends.{Ends, Lies}
use Rattle.term_language.specs.Marks.{judged}
use Rattle.term_language.specs.Globals.{is_inside, are_crowded, never_differ, are_apart, always_differ}
use Rattle.term_language.specs.Values.{all_distinct, holds_of}
use Rattle.term_language.specs.Laws.{Marks, Tells}
use Rattle.term_language.proofs.FormValues.{by_if, by_bool, and_first, and_second}
use Rattle.term_language.proofs.Lists.{AllLie}
use Rattle.term_language.proofs.Conditions.{Decides, tells_judged}

-- a number is not in a list, and no two of a list are the same
abbrev NotIn : ℤ → List ℤ → Type 0
NotIn x [] = Unit {0}
NotIn x (y ∷ ys) = (¬ x ≡ y) × NotIn x ys

abbrev Distinct : List ℤ → Type 0
Distinct [] = Unit {0}
Distinct (x ∷ xs) = NotIn x xs × Distinct xs

not_both : (a b : Bool) → not (a || b) ≡ true → (not a ≡ true) × (not b ≡ true)
not_both true b none = absurd (cc)
not_both false b none = (refl, none)

untested : (x y : ℤ) → not (int_eq x y) ≡ true → ¬ x ≡ y
untested x y differ same = grind (arith, ints)

not_in : (x : ℤ) (ys : List ℤ) → not (list_any (int_eq x) ys) ≡ true → NotIn x ys
not_in x [] none = tt
not_in x (y ∷ ys) none =
    let parts = not_both (int_eq x y) (list_any (int_eq x) ys) none in
    (untested x y parts.0, not_in x ys parts.1)

distinct : (xs : List ℤ) → all_distinct xs ≡ true → Distinct xs
distinct [] all = tt
distinct (x ∷ xs) all =
    (not_in x xs (and_first (not (list_any (int_eq x) xs)) (all_distinct xs) all), distinct xs (and_second (not (list_any (int_eq x) xs)) (all_distinct xs) all))

-- all numbers of a list lie between two
abbrev Between : ℤ → ℤ → List ℤ → Type 0
Between a b [] = Unit {0}
Between a b (x ∷ xs) = (a ≤ℤ x) × (x ≤ℤ b) × Between a b xs

-- a list without a number
abbrev without : ℤ → List ℤ → List ℤ
without z [] = []
without z (x ∷ xs) = if int_eq z x then without z xs else x ∷ without z xs

unequal_numbers : (x y : ℤ) → int_eq x y ≡ false → ¬ x ≡ y
unequal_numbers x y other same = grind (arith, ints)

not_in_without : (z x : ℤ) (xs : List ℤ) → NotIn x xs → NotIn x (without z xs)
not_in_without z x [] none = tt
not_in_without z x (y ∷ ys) none =
    by_if (NotIn x) (int_eq z y) (without z ys) (y ∷ without z ys)
    (λ same. not_in_without z x ys none.1) (λ other. (none.0, not_in_without z x ys none.1))

distinct_without : (z : ℤ) (xs : List ℤ) → Distinct xs → Distinct (without z xs)
distinct_without z [] all = tt
distinct_without z (x ∷ xs) all =
    by_if Distinct (int_eq z x) (without z xs) (x ∷ without z xs)
    (λ same. distinct_without z xs all.1) (λ other. (not_in_without z x xs all.0, distinct_without z xs all.1))

-- without a number that is not there nothing is lost, and else one at most
nothing_lost : (z : ℤ) (xs : List ℤ) → NotIn z xs → length xs ≤ length (without z xs)
nothing_lost z [] none = omega arith
nothing_lost z (x ∷ xs) none =
    by_if (λ (ys : List ℤ). length (x ∷ xs) ≤ length ys) (int_eq z x) (without z xs) (x ∷ without z xs)
    (λ same. absurd (none.0 (equal_tested z x same))) (λ other. omega (arith, nothing_lost z xs none.1))

one_lost : (z : ℤ) (xs : List ℤ) → Distinct xs → length xs ≤ length (without z xs) + 1
one_lost z [] all = omega arith
one_lost z (x ∷ xs) all =
    by_if (λ (ys : List ℤ). length (x ∷ xs) ≤ length ys + 1) (int_eq z x) (without z xs) (x ∷ without z xs)
    (λ same. omega (arith, nothing_lost z xs (subst (λ y. NotIn y xs) (sym (equal_tested z x same)) all.0)))
    (λ other. omega (arith, one_lost z xs all.1))

-- the greatest of the numbers taken out
less_between : (a b : ℤ) (xs : List ℤ) → Between a (b +ℤ pos 1) xs → Between a b (without (b +ℤ pos 1) xs)
less_between a b [] all = tt
less_between a b (x ∷ xs) all =
    by_if (Between a b) (int_eq (b +ℤ pos 1) x) (without (b +ℤ pos 1) xs) (x ∷ without (b +ℤ pos 1) xs)
    (λ same. less_between a b xs all.2)
    (λ other.
    by_lt_z b x
    (λ above. let same : b +ℤ pos 1 ≡ x = omega (arith, ints, all.1) in absurd (unequal_numbers (b +ℤ pos 1) x other same))
    (λ below. (all.0, below, less_between a b xs all.2)))

-- no more distinct numbers lie between two than there are
few_between : (a b : ℤ) (n : ℕ) (xs : List ℤ) → b +ℤ pos 1 ≡ a +ℤ pos n → Between a b xs → Distinct xs → length xs ≤ n
few_between a b zero [] is all differ = omega arith
few_between a b zero (x ∷ xs) is all differ = absurd (omega (arith, ints, all.0, all.1))
few_between a b (suc n) xs is all differ =
    let top = b -ℤ pos 1 in
    let back : top +ℤ pos 1 ≡ b = omega (arith, ints) in
    let less = few_between a top n (without (top +ℤ pos 1) xs) (omega (arith, ints)) (less_between a top xs (subst (λ z. Between a z xs) (sym back) all)) (distinct_without (top +ℤ pos 1) xs differ) in
    omega (arith, less, one_lost (top +ℤ pos 1) xs differ)

-- the values of the intervals that lie between two numbers
abbrev kept : ℤ → ℤ → List Ends → List ℤ → List ℤ
kept a b [] xs = []
kept a b (e ∷ es) [] = []
kept a b (e ∷ es) (x ∷ xs) = if is_inside a b e then x ∷ kept a b es xs else kept a b es xs

not_in_kept : (a b z : ℤ) (es : List Ends) (xs : List ℤ) → NotIn z xs → NotIn z (kept a b es xs)
not_in_kept a b z [] xs none = tt
not_in_kept a b z (e ∷ es) [] none = tt
not_in_kept a b z (e ∷ es) (x ∷ xs) none =
    by_if (NotIn z) (is_inside a b e) (x ∷ kept a b es xs) (kept a b es xs)
    (λ inside. (none.0, not_in_kept a b z es xs none.1)) (λ out. not_in_kept a b z es xs none.1)

distinct_kept : (a b : ℤ) (es : List Ends) (xs : List ℤ) → Distinct xs → Distinct (kept a b es xs)
distinct_kept a b [] xs all = tt
distinct_kept a b (e ∷ es) [] all = tt
distinct_kept a b (e ∷ es) (x ∷ xs) all =
    by_if Distinct (is_inside a b e) (x ∷ kept a b es xs) (kept a b es xs)
    (λ inside. (not_in_kept a b x es xs all.0, distinct_kept a b es xs all.1)) (λ out. distinct_kept a b es xs all.1)

between_kept : (a b : ℤ) (es : List Ends) (xs : List ℤ) → AllLie xs es → Between a b (kept a b es xs)
between_kept a b [] xs lie = tt
between_kept a b (e ∷ es) [] lie = tt
between_kept a b (e ∷ es) (x ∷ xs) lie =
    by_if (Between a b) (is_inside a b e) (x ∷ kept a b es xs) (kept a b es xs)
    (λ inside.
    let low = le_tested a e.low (and_first (int_le a e.low) (int_le e.high b) inside) in
    let high = le_tested e.high b (and_second (int_le a e.low) (int_le e.high b) inside) in
    (omega (arith, ints, lie.0.from_low), omega (arith, ints, lie.0.to_high), between_kept a b es xs lie.1))
    (λ out. between_kept a b es xs lie.1)

length_kept : (a b : ℤ) (es : List Ends) (xs : List ℤ) → AllLie xs es → length (filter (is_inside a b) es) ≤ length (kept a b es xs)
length_kept a b [] [] lie = omega arith
length_kept a b [] (x ∷ xs) lie = omega arith
length_kept a b (e ∷ es) [] lie = absurd lie
length_kept a b (e ∷ es) (x ∷ xs) lie =
    by_bool (λ inside. length (if inside then e ∷ filter (is_inside a b) es else filter (is_inside a b) es) ≤ length (if inside then x ∷ kept a b es xs else kept a b es xs)) (is_inside a b e)
    (λ inside. omega (arith, length_kept a b es xs lie.1)) (λ out. length_kept a b es xs lie.1)

-- an element that passes
pub any_some : {A : Type 0} (test : A → Bool) (xs : List A) → list_any test xs ≡ true → (x : A) × (test x ≡ true)
any_some test [] some = absurd (cc)
any_some test (x ∷ xs) some =
    elim (or_cases (test x) (list_any test xs) some) [ inl here ↦ (x, here) | inr later ↦ any_some test xs later ]

crowded : (a b : ℤ) (es : List Ends) (xs : List ℤ) → are_crowded es a b ≡ true → AllLie xs es → Distinct xs → ⊥
crowded a b es xs full lie differ =
    let order = le_tested a b (and_first (int_le a b) (nat_lt (int_gap a b + 1) (length (filter (is_inside a b) es))) full) in
    let more = nat_tested (int_gap a b + 1) (length (filter (is_inside a b) es)) (and_second (int_le a b) (nat_lt (int_gap a b + 1) (length (filter (is_inside a b) es))) full) in
    let lead = gap_leads a b order in
    let few = few_between a b (int_gap a b + 1) (kept a b es xs) (omega (arith, ints, lead)) (between_kept a b es xs lie) (distinct_kept a b es xs differ) in
    omega (arith, more, few, length_kept a b es xs lie)

pub never_right : (es : List Ends) (xs : List ℤ) → AllLie xs es → never_differ es ≡ true → all_distinct xs ≡ false
never_right es xs lie never =
    let first = any_some (λ (x : Ends). list_any (λ (y : Ends). are_crowded es x.low y.high) es) es never in
    let second = any_some (λ (y : Ends). are_crowded es first.0.low y.high) es first.1 in
    by_bool (λ all. all ≡ false) (all_distinct xs)
    (λ all. absurd (crowded first.0.low second.0.high es xs second.1 lie (distinct xs all)))
    (λ other. refl)

neither_true : (a b : Bool) → a ≡ false → not b ≡ true → not (a || b) ≡ true
neither_true true b p q = sym p
neither_true false b p q = q

apart_numbers : (x y : ℤ) (a e : Ends) → Lies x a → Lies y e → are_apart a e ≡ true → int_eq x y ≡ false
apart_numbers x y a e p q apart =
    elim (or_cases (int_lt a.high e.low) (int_lt e.high a.low) apart) [
      | inl below ↦ unequal x y (λ same. omega (arith, ints, lt_tested a.high e.low below, p.to_high, q.from_low))
      | inr above ↦ unequal x y (λ same. omega (arith, ints, lt_tested e.high a.low above, q.to_high, p.from_low))
    ]
  where
    unequal : (x y : ℤ) → ¬ x ≡ y → int_eq x y ≡ false
    unequal x y differ =
        by_bool (λ same. same ≡ false) (int_eq x y) (λ same. absurd (differ (equal_tested x y same))) (λ other. refl)

none_equal : (x : ℤ) (a : Ends) (ys : List ℤ) (es : List Ends) → Lies x a → AllLie ys es → list_all (are_apart a) es ≡ true → not (list_any (int_eq x) ys) ≡ true
none_equal x a [] es p lie apart = refl
none_equal x a (y ∷ ys) [] p lie apart = absurd lie
none_equal x a (y ∷ ys) (e ∷ es) p lie apart =
    neither_true (int_eq x y) (list_any (int_eq x) ys)
    (apart_numbers x y a e p lie.0 (and_first (are_apart a e) (list_all (are_apart a) es) apart))
    (none_equal x a ys es p lie.1 (and_second (are_apart a e) (list_all (are_apart a) es) apart))

pub always_right : (es : List Ends) (xs : List ℤ) → AllLie xs es → always_differ es ≡ true → all_distinct xs ≡ true
always_right [] [] lie always = refl
always_right [] (x ∷ xs) lie always = absurd lie
always_right (a ∷ es) [] lie always = absurd lie
always_right (a ∷ es) (x ∷ xs) lie always =
    and_from (not (list_any (int_eq x) xs)) (all_distinct xs)
    (none_equal x a xs es lie.0 lie.1 (and_first (list_all (are_apart a) es) (always_differ es) always))
    (always_right es xs lie.1 (and_second (list_all (are_apart a) es) (always_differ es) always))

some_decides : (es : List Ends) (vs : Option (List ℤ)) → IfSome vs (λ xs. AllLie xs es) → IfSome vs (Decides (never_differ es) (always_differ es) all_distinct)
some_decides es None lie = tt
some_decides es (Some xs) lie = record { wrong = never_right es xs lie; right = always_right es xs lie }

pub tells_different : (m : Defined) (es : List Ends) (vs : Option (List ℤ)) → Marks m vs → IfSome vs (λ xs. AllLie xs es)
    → Tells (judged m (never_differ es) (always_differ es)) (holds_of all_distinct vs)
tells_different m es vs marked lie =
    tells_judged m (never_differ es) (always_differ es) all_distinct vs marked (some_decides es vs lie)
