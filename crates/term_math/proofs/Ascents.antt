-- Sets whose numbers ascend, and what is missing in them.
use Rattle.std.proofs.Common.{◌≡◌, inl, inr, ℕ, zero, suc, ◌+◌, ◌<◌, ◌≤◌, ℤ, ◌<ℤ◌, int_lt, int_le, Bool, true, false, ◌&&◌, ◌||◌, List, [], ◌∷◌, length, get_or, take, drop, Option, Some, None, IfSome, is_some}
use Rattle.std.proofs.Common.{if◌then◌else◌, Vec, Global, arith, refl, ap, subst, sym, ◌∙◌}
use Rattle.std.specs.List.{list_all, list_any}
use Rattle.std.specs.List.Sorted.{IsNonDecreasingBy, IsPartitionPoint}
use Rattle.std.specs.Ordering.{MatchOrdering, int_cmp, int_eq, ordering_index}
use Rattle.std.specs.declared.cmp.Ordering.{Ordering}
use Rattle.std.specs.declared.cmp.Ordering.TheVariants.{Less, Equal, Greater}
use Rattle.std.proofs.lemmas.Bool.{and_from, and_left, cases_lt}
use Rattle.std.proofs.lemmas.Cmp.{int_ranked}
use Rattle.std.proofs.lemmas.Int.{ints}
use Rattle.std.proofs.lemmas.List.Sorted.{IsNonDecreasingBy-from_all_adjacent}
use Rattle.term_language.specs.Ends.{ends, has}
use Rattle.term_language.proofs.FormValues.{by_bool, and_first, and_second}
use Rattle.term_math.specs.Ascending.{IsGap, all_ascend, ascends, precedes, sets_of}
use Rattle.term_math.specs.Kept.{block}
use Rattle.term_math.specs.Within.{is_one, wide_sets}

-- whether they do, number by number
pub first_preceded : (number first : ℤ) (set later : List ℤ) (b : Bool) → set ≡ first ∷ later → b ≡ int_lt number first → b ≡ precedes number set
first_preceded number first set later b is tested = tested ∙ sym (ap (precedes number) is)

pub none_preceded : (number : ℤ) (set : List ℤ) → length set ≡ 0 → precedes number set ≡ true
none_preceded number [] none = refl
none_preceded number (next ∷ set) none = absurd (omega (arith, none))

pub next_ascends : (first : ℤ) (left later : List ℤ) → left ≡ first ∷ later → precedes first later ≡ true → ascends left ≡ ascends later
next_ascends first left later is before = ap ascends is ∙ ap (λ (b : Bool). b && ascends later) before

pub next_falls : (first : ℤ) (left later : List ℤ) → left ≡ first ∷ later → precedes first later ≡ false → ascends left ≡ false
next_falls first left later is past = ap ascends is ∙ ap (λ (b : Bool). b && ascends later) past

pub none_ascend : (left : List ℤ) → length left ≡ 0 → ascends left ≡ true
none_ascend [] none = refl
none_ascend (first ∷ left) none = absurd (omega (arith, none))

-- the sets of an array
pub ascends_at : (xs : List (Vec ℤ Global)) (i : ℕ) (x : Vec ℤ Global) → i < length xs → x ≡ get_or xs i x → all_ascend xs ≡ true → ascends x.items ≡ true
ascends_at [] i x below at up = absurd (omega (arith, below))
ascends_at (y ∷ xs) zero x below at up = ap (λ (set : Vec ℤ Global). ascends set.items) at ∙ and_first (ascends y.items) (all_ascend xs) up
ascends_at (y ∷ xs) (suc i) x below at up = ascends_at xs i x (omega (arith, below)) at (and_second (ascends y.items) (all_ascend xs) up)

pub wide_ascend : (sets : List (Vec ℤ Global)) → all_ascend sets ≡ true → list_all ascends (wide_sets (sets_of sets)) ≡ true
wide_ascend [] up = refl
wide_ascend (set ∷ sets) up =
    let later = wide_ascend sets (and_second (ascends set.items) (all_ascend sets) up) in
    by_bool (λ one. list_all ascends (if one then wide_sets (sets_of sets) else set.items ∷ wide_sets (sets_of sets)) ≡ true) (is_one set.items)
    (λ one. later)
    (λ other. and_from (ascends set.items) (list_all ascends (wide_sets (sets_of sets))) (and_first (ascends set.items) (all_ascend sets) up) later)

-- answers of comparisons rise along a set that ascends
below : (x y : ℤ) → int_lt x y ≡ true → x <ℤ y
below x y tested = grind (arith, ints)

adjacent : (set : List ℤ) → ascends set ≡ true → (k : ℕ) (d : ℤ) → k + 1 < length set → get_or set k d <ℤ get_or set (suc k) d
adjacent [] up k d there = absurd (omega (arith, there))
adjacent (x ∷ []) up k d there = absurd (omega (arith, there))
adjacent (x ∷ (y ∷ set)) up zero d there = below x y (and_first (int_lt x y) (ascends (y ∷ set)) up)
adjacent (x ∷ (y ∷ set)) up (suc k) d there = adjacent (y ∷ set) (and_second (int_lt x y) (ascends (y ∷ set)) up) k d (omega (arith, there))

higher : (x y z : ℤ) (p q : Ordering) → x <ℤ y → MatchOrdering p (x <ℤ z) (x ≡ z) (z <ℤ x) → MatchOrdering q (y <ℤ z) (y ≡ z) (z <ℤ y) → ordering_index p ≤ ordering_index q
higher x y z Less q up first second = omega arith
higher x y z Equal Less up first second = absurd (omega (arith, ints, up, first, second))
higher x y z Equal Equal up first second = omega arith
higher x y z Equal Greater up first second = omega arith
higher x y z Greater Less up first second = absurd (omega (arith, ints, up, first, second))
higher x y z Greater Equal up first second = absurd (omega (arith, ints, up, first, second))
higher x y z Greater Greater up first second = omega arith

compared_rise : (number : ℤ) (set : List ℤ) → ascends set ≡ true → IsNonDecreasingBy (λ (here : ℤ). ordering_index (int_cmp here number)) set
compared_rise number set up =
    IsNonDecreasingBy-from_all_adjacent (λ (here : ℤ). ordering_index (int_cmp here number)) set
    (λ k d there.
    let x : ℤ = get_or set k d in
    let y : ℤ = get_or set (suc k) d in
    let next : suc k ≡ k + 1 = omega arith in
    subst (λ (n : ℕ). ordering_index (int_cmp x number) ≤ ordering_index (int_cmp (get_or set n d) number)) next
    (higher x y number (int_cmp x number) (int_cmp y number) (adjacent set up k d there) (int_ranked x number (int_cmp x number) refl) (int_ranked y number (int_cmp y number) refl)))

pub gap_found : (number : ℤ) (set : List ℤ) (place : ℕ) → ascends set ≡ true
    → (IsNonDecreasingBy (λ (here : ℤ). ordering_index (int_cmp here number)) set → IsPartitionPoint (λ (here : ℤ). int_cmp here number ≡ Less) (λ (here : ℤ). int_cmp here number ≡ Greater) set place)
    → IsGap number set place
gap_found number set place up searched =
    let parted = searched (compared_rise number set up) in (
      (λ k d from to. int_ranked (get_or set k d) number Less (sym (parted.0 k d from to))),
      λ k d from to. int_ranked (get_or set k d) number Greater (sym (parted.1 k d from to)),
    )

-- what has a gap is missing
none_passes : (test : ℤ → Bool) (set : List ℤ) → ((k : ℕ) (d : ℤ) → k < length set → test (get_or set k d) ≡ false) → list_any test set ≡ false
none_passes test [] each = refl
none_passes test (x ∷ set) each =
    ap (λ (b : Bool). b || list_any test set) (each zero x (omega arith))
    ∙ none_passes test set (λ k d there. each (suc k) d (omega (arith, there)))

by_place : (P : Type 0) (k place : ℕ) → (k < place → P) → (place ≤ k → P) → P
by_place P k place before behind =
    elim (cases_lt k place) [
      | inl less ↦ before less
      | inr past ↦ behind past
    ]

less_differs : (number here : ℤ) → here <ℤ number → int_eq number here ≡ false
less_differs number here less = grind (arith, ints)

more_differs : (number here : ℤ) → number <ℤ here → int_eq number here ≡ false
more_differs number here more = grind (arith, ints)

pub none_equal : (number : ℤ) (set : List ℤ) (place : ℕ) → IsGap number set place → list_any (int_eq number) set ≡ false
none_equal number set place parted =
    none_passes (int_eq number) set
    (λ k d there.
    by_place (int_eq number (get_or set k d) ≡ false) k place
    (λ before. less_differs number (get_or set k d) (parted.0 k d (omega arith) before))
    (λ behind. more_differs number (get_or set k d) (parted.1 k d behind there)))

pub missing_told : (number : ℤ) (set : List ℤ) (found : Option ℕ) (told : Bool) → IfSome found (IsGap number set) → told ≡ is_some found → told ≡ true → list_any (int_eq number) set ≡ false
missing_told number set None told gap is there = absurd (cc)
missing_told number set (Some place) told gap is there = none_equal number set place gap

below_all : (low high here : ℤ) → here <ℤ low → has (ends low high) here ≡ false
below_all low high here less = let out : int_le low here ≡ false = grind (arith, ints) in and_left (int_le low here) (int_le here high) out

above_all : (low high here : ℤ) → high <ℤ here → has (ends low high) here ≡ false
above_all low high here more =
    let out : int_le here high ≡ false = grind (arith, ints) in
    ap (λ (b : Bool). int_le low here && b) out ∙ neither (int_le low here)
  where
    neither : (b : Bool) → (b && false) ≡ false
    neither true = refl
    neither false = refl

pub none_between : (low high : ℤ) (set : List ℤ) (place other : ℕ) → IsGap low set place → IsGap high set other → place ≡ other → list_any (has (ends low high)) set ≡ false
none_between low high set place other first second same =
    none_passes (has (ends low high)) set
    (λ k d there.
    by_place (has (ends low high) (get_or set k d) ≡ false) k place
    (λ before. below_all low high (get_or set k d) (first.0 k d (omega arith) before))
    (λ behind. above_all low high (get_or set k d) (second.1 k d (omega (arith, behind, same)) there)))

-- and has no block
neither_is : (a b : Bool) → (a || b) ≡ false → (a ≡ false) × (b ≡ false)
neither_is true b none = absurd (cc)
neither_is false b none = (refl, none)

turned : (number here : ℤ) → int_eq number here ≡ false → int_eq here number ≡ false
turned number here other = grind (arith, ints)

pub missing_block : {A : Type 0} (number : ℤ) (set : List ℤ) (width : ℕ) (xs : List A) → list_any (int_eq number) set ≡ false → block number set width xs ≡ None
missing_block number [] width xs none = refl
missing_block {A} number (here ∷ set) width xs none =
    let apart = neither_is (int_eq number here) (list_any (int_eq number) set) none in
    ap (λ (b : Bool). if b then Some (take width xs) else block number set width (drop width xs)) (turned number here apart.0)
    ∙ missing_block number set width (drop width xs) apart.1
