-- Elements of arrays on a box of one point.
use Rattle.std.proofs.Common.{◌≡◌, ◌⊎◌, inl, inr, ℕ, zero, suc, ◌+◌, ◌<◌, ℤ, int_le, Bool, true, false, List, [], ◌∷◌, ◌++◌, map, length, get_or, AllPairs, arith, refl, sym, subst, ◌∙◌}
use Rattle.std.specs.List.{filter, flat_map, list_any}
use Rattle.std.specs.Int.{int_gap}
use Rattle.std.specs.Ordering.{int_eq}
use Rattle.std.proofs.lemmas.Int.{ints}
use Rattle.std.proofs.lemmas.Bool.{and_from, or_left, or_right}
use Rattle.sopl_base.proofs.Tests.{le_tested}
use Rattle.box_problem.specs.Box.{Box, IsBox, IsPoint}
use Rattle.box_problem.proofs.Counts.{gap_leads}
use Rattle.term_language.specs.declared.answers.Defined.{Defined}
use Rattle.term_language.specs.declared.answers.Defined.TheVariants.{Never, Maybe, Always}
use Rattle.term_language.specs.Terms.{Item, Fixed, Free, Table}
use Rattle.term_language.specs.Arrays.{Entry, indices, paired, entries, lies_in, reached, is_covered, are_covered}
use Rattle.term_language.specs.Ends.{Ends, has, hull_of}
use Rattle.term_language.specs.Rules.{Near, unless_folded, item_ends, if_any, element_ends, reached_mark, element_mark}
use Rattle.term_language.specs.Laws.{Exact}
use Rattle.term_language.proofs.FormValues.{by_if, and_first, and_second}
use Rattle.term_language.proofs.Operations.{equal_tests}
use Rattle.term_language.proofs.Elements.{Mem, AllIn}
use Rattle.term_language.proofs.ElementParts.{lows_of, item_intervals, all_counted}
use Rattle.term_language.proofs.Exactness.{IsOne, AllOne, one_cell, one_folded}

-- no two lists are the same
all_of_pairs : (xs : List ℤ) (later : List (List ℤ)) → AllPairs (λ p q. ¬ p ≡ q) (xs ∷ later) → (k : ℕ) (d : List ℤ) → k < length later → ¬ xs ≡ get_or later k d
all_of_pairs xs later pairs k d exists = pairs zero (suc k) d (omega arith) (omega arith)

pairs_of_pairs : (xs : List ℤ) (later : List (List ℤ)) → AllPairs (λ p q. ¬ p ≡ q) (xs ∷ later) → AllPairs (λ p q. ¬ p ≡ q) later
pairs_of_pairs xs later pairs = λ i j d before exists. pairs (suc i) (suc j) d (omega arith) (omega arith)

-- at most one entry
abbrev AtMostOne : List Entry → Type 0
AtMostOne [] = Unit {0}
AtMostOne (e ∷ []) = Unit {0}
AtMostOne (e ∷ f ∷ later) = ⊥

abbrev kept : (List ℤ → Bool) → List (List ℤ) → List Item → List Entry
kept test lists items = filter (λ (e : Entry). test e.index) (paired lists items)

no_other : (test : List ℤ → Bool) (xs : List ℤ) (lists : List (List ℤ)) (items : List Item) → ((ys : List ℤ) → test ys ≡ true → ys ≡ xs)
    → ((k : ℕ) (d : List ℤ) → k < length lists → ¬ xs ≡ get_or lists k d) → kept test lists items ≡ []
no_other test xs [] items only differ = refl
no_other test xs (ys ∷ later) [] only differ = refl
no_other test xs (ys ∷ later) (item ∷ items) only differ =
    by_if (λ (es : List Entry). es ≡ []) (test ys) (record { index = ys; item = item } ∷ kept test later items) (kept test later items)
    (λ met. absurd (differ zero ys (omega arith) (sym (only ys met))))
    (λ unmet. no_other test xs later items only (λ k d exists. differ (suc k) d (omega arith)))

one_kept : (test : List ℤ → Bool) (xs : List ℤ) (lists : List (List ℤ)) (items : List Item) → ((ys : List ℤ) → test ys ≡ true → ys ≡ xs) → AllPairs (λ p q. ¬ p ≡ q) lists
    → AtMostOne (kept test lists items)
one_kept test xs [] items only pairs = tt
one_kept test xs (ys ∷ later) [] only pairs = tt
one_kept test xs (ys ∷ later) (item ∷ items) only pairs =
    by_if AtMostOne (test ys) (record { index = ys; item = item } ∷ kept test later items) (kept test later items)
    (λ met.
    let none = no_other test ys later items (λ zs passes. only zs passes ∙ sym (only ys met)) (all_of_pairs ys later pairs) in
    subst (λ (es : List Entry). AtMostOne (record { index = ys; item = item } ∷ es)) (sym none) tt)
    (λ unmet. one_kept test xs later items only (pairs_of_pairs ys later pairs))

covered_or_none : (test : List ℤ → Bool) (covered : Bool) (lists : List (List ℤ)) (items : List Item) → ((ys : List ℤ) → Mem ys lists → test ys ≡ true → covered ≡ true)
    → (covered ≡ true) ⊎ (kept test lists items ≡ [])
covered_or_none test covered [] items goes = inr refl
covered_or_none test covered (ys ∷ later) [] goes = inr refl
covered_or_none test covered (ys ∷ later) (item ∷ items) goes =
    by_if (λ (es : List Entry). (covered ≡ true) ⊎ (es ≡ [])) (test ys) (record { index = ys; item = item } ∷ kept test later items) (kept test later items)
    (λ met. inl (goes ys (inl refl) met))
    (λ unmet. covered_or_none test covered later items (λ zs among passes. goes zs (inr among) passes))

-- an index within intervals of one number each
only_index : (es : List Ends) (xs : List ℤ) → AllOne es → lies_in es xs ≡ true → xs ≡ lows_of es
only_index [] [] one inside = refl
only_index [] (x ∷ xs) one inside = absurd (cc)
only_index (a ∷ es) [] one inside = absurd (cc)
only_index (a ∷ es) (x ∷ xs) one inside =
    let here = and_first (has a x) (lies_in es xs) inside in
    let from = le_tested a.low x (and_first (int_le a.low x) (int_le x a.high) here) in
    let to = le_tested x a.high (and_second (int_le a.low x) (int_le x a.high) here) in
    let first : x ≡ a.low = omega (arith, ints, from, to, one.0) in
    let later = only_index es xs one.1 (and_second (has a x) (lies_in es xs) inside) in
    cc

-- an index of an array has its numbers in the sets
pub mem_append : (xs : List ℤ) (first second : List (List ℤ)) → Mem xs (first ++ second) → Mem xs first ⊎ Mem xs second
mem_append xs [] second some = inr some
mem_append xs (ys ∷ later) second (inl here) = inl (inl here)
mem_append xs (ys ∷ later) second (inr rest) =
    elim (mem_append xs later second rest) [ inl before ↦ inl (inr before) | inr behind ↦ inr behind ]

in_sets : (x : ℤ) (set : List ℤ) (sets : List (List ℤ)) (xs : List ℤ) (lists : List (List ℤ)) → list_any (int_eq x) set ≡ true → ((ys : List ℤ) → Mem ys lists → AllIn ys sets)
    → Mem xs (map (λ later. x ∷ later) lists) → AllIn xs (set ∷ sets)
in_sets x set sets xs [] within goes some = absurd some
in_sets x set sets xs (ys ∷ lists) within goes (inl here) =
    subst (λ (zs : List ℤ). AllIn zs (set ∷ sets)) here (within, goes ys (inl refl))
in_sets x set sets xs (ys ∷ lists) within goes (inr rest) =
    in_sets x set sets xs lists within (λ zs among. goes zs (inr among)) rest

in_all_sets : (some set : List ℤ) (sets : List (List ℤ)) (xs : List ℤ) (lists : List (List ℤ)) → ((x : ℤ) → list_any (int_eq x) some ≡ true → list_any (int_eq x) set ≡ true)
    → ((ys : List ℤ) → Mem ys lists → AllIn ys sets) → Mem xs (flat_map (λ number. map (λ later. number ∷ later) lists) some) → AllIn xs (set ∷ sets)
in_all_sets [] set sets xs lists within goes among = absurd among
in_all_sets (number ∷ some) set sets xs lists within goes among =
    elim (mem_append xs (map (λ later. number ∷ later) lists) (flat_map (λ n. map (λ later. n ∷ later) lists) some) among) [
      | inl here ↦ in_sets number set sets xs lists (within number (or_left (int_eq number number) (list_any (int_eq number) some) (equal_tests number number refl))) goes here
      | inr later ↦ in_all_sets some set sets xs lists (λ x in_some. within x (or_right (int_eq x number) (list_any (int_eq x) some) in_some)) goes later
    ]

indices_in : (sets : List (List ℤ)) (xs : List ℤ) → Mem xs (indices sets) → AllIn xs sets
indices_in [] xs (inl here) = subst (λ (zs : List ℤ). AllIn zs []) here tt
indices_in [] xs (inr none) = absurd none
indices_in (set ∷ sets) xs among =
    in_all_sets set set sets xs (indices sets) (λ x inside. inside) (λ ys. indices_in sets ys) among

-- then intervals of one number each are covered
covered_at : (es : List Ends) (sets : List (List ℤ)) → AllOne es → AllIn (lows_of es) sets → are_covered es sets ≡ true
covered_at [] [] one within = refl
covered_at [] (set ∷ sets) one within = absurd within
covered_at (a ∷ es) [] one within = absurd within
covered_at (a ∷ es) (set ∷ sets) one within =
    let lead = gap_leads a.low a.high (omega (arith, ints, one.0)) in
    and_from (is_covered a set) (are_covered es sets)
    (all_counted (λ number. list_any (int_eq number) set) a.low (int_gap a.low a.high + 1)
    (λ x low high.
    let same : a.low ≡ x = omega (arith, ints, lead, one.0) in
    subst (λ (z : ℤ). list_any (int_eq z) set ≡ true) same within.0))
    (covered_at es sets one.1 within.1)

-- the interval of one item, or none
one_item : (b : Box) (item : Item) → IsBox b → IsPoint b → IsOne (item_ends b item)
one_item b (Fixed z) is_box one = refl
one_item b (Free cell) is_box one = one_cell b cell is_box one

exact_reached : (b : Box) (plain covered : Bool) (some all : List Entry) → IsBox b → IsPoint b → AtMostOne some → (covered ≡ true) ⊎ (some ≡ [])
    → Exact (reached_mark covered some) (IsOne (unless_folded plain (hull_of (item_intervals b (if_any some all)))))
exact_reached b plain covered [] all is_box one few covers = tt
exact_reached b plain true (e ∷ []) all is_box one few covers = one_folded plain (item_ends b e.item) (one_item b e.item is_box one)
exact_reached b plain false (e ∷ []) all is_box one few (inl covers) = absurd (cc)
exact_reached b plain false (e ∷ []) all is_box one few (inr none) = absurd (cc)
exact_reached b plain covered (e ∷ f ∷ later) all is_box one few covers = absurd few

pub exact_element : (b : Box) (plain : Bool) (table : Table) (m : Defined) (es : List Ends) → IsBox b → IsPoint b → AllPairs (λ p q. ¬ p ≡ q) (indices table.sets) → Exact m (AllOne es)
    → Exact (element_mark table m es) (IsOne (unless_folded plain (element_ends Near b es table)))
exact_element b plain table Never es is_box one differ p = tt
exact_element b plain table Maybe es is_box one differ p = absurd p
exact_element b plain table Always es is_box one differ p =
    exact_reached b plain (are_covered es table.sets) (reached es table) (entries table) is_box one
    (one_kept (lies_in es) (lows_of es) (indices table.sets) table.items (λ ys inside. only_index es ys p inside) differ)
    (covered_or_none (lies_in es) (are_covered es table.sets) (indices table.sets) table.items
    (λ ys among inside. covered_at es table.sets p (subst (λ (zs : List ℤ). AllIn zs table.sets) (only_index es ys p inside) (indices_in table.sets ys among))))
