-- The elements whose indices lie within intervals, one dimension after the other.
use Rattle.std.proofs.Common.{◌≡◌, ℕ, suc, ◌+◌, ◌*◌, ◌<◌, ◌≤◌, ℤ, Bool, true, false, ◌&&◌, List, [], ◌∷◌, ◌++◌, map, length, get_or, take, drop, Option, Some, None, if◌then◌else◌}
use Rattle.std.proofs.Common.{arith, refl, ap, subst, sym, ◌∙◌, Vec, Global}
use Rattle.std.specs.List.{filter, fold}
use Rattle.std.proofs.lemmas.List.Elements.{filter-append}
use Rattle.std.proofs.lemmas.List.{at_drop_more, at_drop_all, length-drop, take-map, drop-map}
use Rattle.box_problem.specs.Box.{Box}
use Rattle.term_language.specs.Arrays.{Entry, indices, paired, entries, lies_in}
use Rattle.term_language.specs.Ends.{Ends, has, hull, hull_of}
use Rattle.term_language.specs.Rules.{item_ends}
use Rattle.term_language.specs.Terms.{Item, Table}
use Rattle.term_math.specs.declared.elements.Element.{Element}
use Rattle.term_math.specs.Kept.{item_of, items_of, sets_of}
use Rattle.term_math.specs.Within.{IsWideFirst, is_one, wide_sets, joined, grown, reached_ends}
use Rattle.term_math.proofs.Blocks.{all_under, under, length_under, length_all, paired_append}

-- intervals of entries
abbrev pub item_intervals : Box → List Entry → List Ends
item_intervals b es = map (λ (e : Entry). item_ends b e.item) es

abbrev pub within : List Ends → List Entry → List Entry
within rs es = filter (λ (e : Entry). lies_in rs e.index) es

intervals_append : (b : Box) (xs ys : List Entry) → item_intervals b (xs ++ ys) ≡ item_intervals b xs ++ item_intervals b ys
intervals_append b [] ys = refl
intervals_append b (x ∷ xs) ys = ap (λ (es : List Ends). item_ends b x.item ∷ es) (intervals_append b xs ys)

grown_append : (found : Option Ends) (xs ys : List Ends) → grown found (xs ++ ys) ≡ grown (grown found xs) ys
grown_append found [] ys = refl
grown_append found (x ∷ xs) ys = grown_append (Some (joined found x)) xs ys

-- the entries under a number are those below it, or none
pub under_in : (b : Box) (r : Ends) (rs : List Ends) (number : ℤ) (lists : List (List ℤ)) (items : List Item) → has r number ≡ true
    → item_intervals b (within (r ∷ rs) (paired (under number lists) items))
    ≡ item_intervals b (within rs (paired lists items))
under_in b r rs number [] items there = refl
under_in b r rs number (xs ∷ lists) [] there = refl
under_in b r rs number (xs ∷ lists) (item ∷ items) there =
    ap (λ (c : Bool). item_intervals b (if c && lies_in rs xs then record { index = number ∷ xs; item = item }
    ∷ within (r ∷ rs) (paired (under number lists) items) else within (r ∷ rs) (paired (under number lists) items))) there
    ∙ kept (lies_in rs xs) (record { index = number ∷ xs; item = item }) (record { index = xs; item = item }) (within (r ∷ rs) (paired (under number lists) items)) (within rs (paired lists items))
    refl (under_in b r rs number lists items there)
  where
    kept : (test : Bool) (x y : Entry) (some others : List Entry) → x.item ≡ y.item → item_intervals b some ≡ item_intervals b others → item_intervals b (if test then x ∷ some else some)
        ≡ item_intervals b (if test then y ∷ others else others)
    kept true x y some others same is = ap (λ (i : Item). item_ends b i ∷ item_intervals b some) same ∙ ap (λ (es : List Ends). item_ends b y.item ∷ es) is
    kept false x y some others same is = is

pub under_out : (b : Box) (r : Ends) (rs : List Ends) (number : ℤ) (lists : List (List ℤ)) (items : List Item) → has r number ≡ false
    → item_intervals b (within (r ∷ rs) (paired (under number lists) items)) ≡ []
under_out b r rs number [] items out = refl
under_out b r rs number (xs ∷ lists) [] out = refl
under_out b r rs number (xs ∷ lists) (item ∷ items) out =
    ap (λ (c : Bool). item_intervals b (if c && lies_in rs xs then record { index = number ∷ xs; item = item }
    ∷ within (r ∷ rs) (paired (under number lists) items) else within (r ∷ rs) (paired (under number lists) items))) out
    ∙ under_out b r rs number lists items out

-- the first block, and those behind it
abbrev pub of_blocks : Box → Ends → List Ends → List ℤ → List (List ℤ) → List Item → List Ends
of_blocks b r rs set lists items = item_intervals b (within (r ∷ rs) (paired (all_under set lists) items))

pub block_first : (b : Box) (r : Ends) (rs : List Ends) (number : ℤ) (set : List ℤ) (lists : List (List ℤ)) (items : List Item) → length lists ≤ length items
    → of_blocks b r rs (number ∷ set) lists items
    ≡ item_intervals b (within (r ∷ rs) (paired (under number lists) (take (length lists) items))) ++ of_blocks b r rs set lists (drop (length lists) items)
block_first b r rs number set lists items most =
    ap (λ (es : List Entry). item_intervals b (within (r ∷ rs) es)) (
    paired_append (under number lists) (all_under set lists) items (omega (arith, most, length_under number lists))
    ∙ ap (λ (n : ℕ). paired (under number lists) (take n items) ++ paired (all_under set lists) (drop n items)) (length_under number lists)
    )
    ∙ ap (item_intervals b) (filter-append (λ (e : Entry). lies_in (r ∷ rs) e.index) (paired (under number lists) (take (length lists) items))
    (paired (all_under set lists) (drop (length lists) items)))
    ∙ intervals_append b (within (r ∷ rs) (paired (under number lists) (take (length lists) items))) (within (r ∷ rs) (paired (all_under set lists) (drop (length lists) items)))

-- so many elements are left for each number of a set that is left
pub left_over : (set : List ℤ) (width : ℕ) (left rest : List Element) (i : ℕ) → i < length set → length left ≡ length (drop i set) * width → length rest + width ≡ length left → length rest
    ≡ length (drop (i + 1) set) * width
left_over set width left rest i below complete shorter =
    let more : length (drop i set) ≡ suc (length (drop (i + 1) set)) = omega (arith, length-drop i set, length-drop (i + 1) set, below) in
    omega (arith, shorter, complete ∙ ap (λ (k : ℕ). k * width) more)

pub first_over : (set : List ℤ) (width : ℕ) (left : List Element) (i : ℕ) → i < length set → length left ≡ length (drop i set) * width → width ≤ length left
first_over set width left i below complete =
    let more : length (drop i set) ≡ suc (length (drop (i + 1) set)) = omega (arith, length-drop i set, length-drop (i + 1) set, below) in
    omega (arith, complete ∙ ap (λ (k : ℕ). k * width) more)

-- steps over the numbers of a set
module _ (b : Box) (r : Ends) (rs : List Ends) (sets : List (List ℤ)) (set : List ℤ) (i : ℕ) (number : ℤ) (left first rest : List Element) (below : i < length set) (at : number
    ≡ get_or set i number) (complete : length left ≡ length (drop i set) * length (indices sets)) (in_front : first ≡ take (length (indices sets)) left) (behind : rest
    ≡ drop (length (indices sets)) left) where
  items_left : length (items_of left) ≡ length left
  items_left = count left
    where
      count : (xs : List Element) → length (items_of xs) ≡ length xs
      count [] = refl
      count (x ∷ xs) = ap suc (count xs)

  step_is : of_blocks b r rs (drop i set) (indices sets) (items_of left) ≡ item_intervals b (within (r ∷ rs) (paired (under number (indices sets)) (items_of first)))
      ++ of_blocks b r rs (drop (i + 1) set) (indices sets) (items_of rest)
  step_is =
      let most : length (indices sets) ≤ length (items_of left) = omega (arith, items_left, first_over set (length (indices sets)) left i below complete) in
      at_drop_more (λ (xs : List ℤ). of_blocks b r rs xs (indices sets) (items_of left)) set i number below
      ∙ ap (λ (n : ℤ). of_blocks b r rs (n ∷ drop (i + 1) set) (indices sets) (items_of left)) (sym at)
      ∙ block_first b r rs number (drop (i + 1) set) (indices sets) (items_of left) most
      ∙ ap (λ (xs : List Item). item_intervals b (within (r ∷ rs) (paired (under number (indices sets)) xs))
      ++ of_blocks b r rs (drop (i + 1) set) (indices sets) (drop (length (indices sets)) (items_of left))) (take-map item_of (length (indices sets)) left ∙ ap items_of (sym in_front))
      ∙ ap (λ (xs : List Item). item_intervals b (within (r ∷ rs) (paired (under number (indices sets)) (items_of first))) ++ of_blocks b r rs (drop (i + 1) set) (indices sets) xs)
      (drop-map item_of (length (indices sets)) left ∙ ap items_of (sym behind))

  pub block_reached : (hull : Option Ends) → has r number ≡ true → grown hull (of_blocks b r rs (drop i set) (indices sets) (items_of left))
      ≡ grown (grown hull (reached_ends b rs sets (items_of first))) (of_blocks b r rs (drop (i + 1) set) (indices sets) (items_of rest))
  block_reached hull there =
      ap (grown hull) (step_is ∙ ap (λ (es : List Ends). es ++ of_blocks b r rs (drop (i + 1) set) (indices sets) (items_of rest)) (under_in b r rs number (indices sets) (items_of first) there))
      ∙ grown_append hull (reached_ends b rs sets (items_of first)) (of_blocks b r rs (drop (i + 1) set) (indices sets) (items_of rest))

  pub block_passed : (hull : Option Ends) → has r number ≡ false → grown hull (of_blocks b r rs (drop i set) (indices sets) (items_of left))
      ≡ grown hull (of_blocks b r rs (drop (i + 1) set) (indices sets) (items_of rest))
  block_passed hull out =
      ap (grown hull) (step_is ∙ ap (λ (es : List Ends). es ++ of_blocks b r rs (drop (i + 1) set) (indices sets) (items_of rest)) (under_out b r rs number (indices sets) (items_of first) out))

-- where all dimensions are passed, or some are left
pub no_sets : (b : Box) (r : Ends) (rs : List Ends) (items : List Item) (found : Option Ends) → grown found (reached_ends b (r ∷ rs) [] items) ≡ found
no_sets b r rs [] found = refl
no_sets b r rs (item ∷ items) found = refl

under_none : (number : ℤ) (b : Box) (lists : List (List ℤ)) (items : List Item) → item_intervals b (within [] (paired (under number lists) items)) ≡ []
under_none number b [] items = refl
under_none number b (xs ∷ lists) [] = refl
under_none number b (xs ∷ lists) (item ∷ items) = under_none number b lists items

pub sets_left : (b : Box) (set : List ℤ) (sets : List (List ℤ)) (items : List Item) (found : Option Ends) → length items ≡ length (indices (set ∷ sets))
    → grown found (reached_ends b [] (set ∷ sets) items) ≡ found
sets_left b set sets items found complete =
    ap (grown found) (none set items (complete ∙ length_all set (indices sets)))
  where
    none : (numbers : List ℤ) (xs : List Item) → length xs ≡ length numbers * length (indices sets) → item_intervals b (within [] (paired (all_under numbers (indices sets)) xs)) ≡ []
    none [] xs whole = refl
    none (number ∷ numbers) xs whole =
        let most : length (indices sets) ≤ length xs = omega (arith, whole) in
        ap (λ (es : List Entry). item_intervals b (within [] es)) (
        paired_append (under number (indices sets)) (all_under numbers (indices sets)) xs (omega (arith, most, length_under number (indices sets)))
        ∙ ap (λ (n : ℕ). paired (under number (indices sets)) (take n xs) ++ paired (all_under numbers (indices sets)) (drop n xs)) (length_under number (indices sets))
        )
        ∙ ap (item_intervals b) (filter-append (λ (e : Entry). lies_in [] e.index) (paired (under number (indices sets)) (take (length (indices sets)) xs))
        (paired (all_under numbers (indices sets)) (drop (length (indices sets)) xs)))
        ∙ intervals_append b (within [] (paired (under number (indices sets)) (take (length (indices sets)) xs)))
        (within [] (paired (all_under numbers (indices sets)) (drop (length (indices sets)) xs)))
        ∙ ap (λ (es : List Ends). es ++ item_intervals b (within [] (paired (all_under numbers (indices sets)) (drop (length (indices sets)) xs))))
        (under_none number b (indices sets) (take (length (indices sets)) xs))
        ∙ none numbers (drop (length (indices sets)) xs) (omega (arith, length-drop (length (indices sets)) xs, whole))

-- what was found
grown_some : (a : Ends) (xs : List Ends) → grown (Some a) xs ≡ Some (fold hull a xs)
grown_some a [] = refl
grown_some a (x ∷ xs) = grown_some (hull a x) xs

-- the walk begins
wide_again : (sets : List (Vec ℤ Global)) (set : Vec ℤ Global) (later : List (Vec ℤ Global)) → IsWideFirst (sets_of sets) → sets ≡ set ∷ later → wide_sets (sets_of sets)
    ≡ set.items ∷ wide_sets (sets_of later)
wide_again sets set later wide is =
    let first : is_one set.items ≡ false = subst (λ (ss : List (Vec ℤ Global)). IsWideFirst (sets_of ss)) is wide in
    ap (λ (ss : List (Vec ℤ Global)). wide_sets (sets_of ss)) is
    ∙ ap (λ (one : Bool). if one then wide_sets (sets_of later) else set.items ∷ wide_sets (sets_of later)) first

pub wide_first : (sets some : List (Vec ℤ Global)) (set : Vec ℤ Global) (later : List (Vec ℤ Global)) (numbers : List ℤ) → wide_sets (sets_of some) ≡ wide_sets (sets_of sets)
    → IsWideFirst (sets_of some) → some ≡ set ∷ later → numbers ≡ set.items → wide_sets (sets_of sets) ≡ numbers ∷ wide_sets (sets_of later)
wide_first sets some set later numbers same wide is numbers_are =
    sym same ∙ wide_again some set later wide is ∙ ap (λ (xs : List ℤ). xs ∷ wide_sets (sets_of later)) (sym numbers_are)

pub sets_still : (b : Box) (sets : List (Vec ℤ Global)) (elements : List Element) (found : Option Ends) → 0 < length sets → IsWideFirst (sets_of sets)
    → length elements ≡ length (indices (wide_sets (sets_of sets))) → found ≡ grown found (reached_ends b [] (wide_sets (sets_of sets)) (items_of elements))
sets_still b [] elements found some wide complete = absurd (omega (arith, some))
sets_still b (set ∷ sets) elements found some wide complete =
    let is = wide_again (set ∷ sets) set sets wide refl in
    sym (ap (λ (ss : List (List ℤ)). grown found (reached_ends b [] ss (items_of elements))) is
    ∙ sets_left b set.items (wide_sets (sets_of sets)) (items_of elements) found (count elements ∙ complete ∙ ap (λ (ss : List (List ℤ)). length (indices ss)) is))
  where
    count : (xs : List Element) → length (items_of xs) ≡ length xs
    count [] = refl
    count (x ∷ xs) = ap suc (count xs)

pub sets_first : (b : Box) (rs : List Ends) (r : Ends) (later : List Ends) (sets : List (List ℤ)) (numbers : List ℤ) (behind : List (List ℤ)) (items : List Item)
    → rs ≡ r ∷ later → sets ≡ numbers ∷ behind → of_blocks b r later numbers (indices behind) items ≡ reached_ends b rs sets items
sets_first b rs r later sets numbers behind items is first =
    sym (ap (λ (es : List Ends). reached_ends b es sets items) is ∙ ap (λ (ss : List (List ℤ)). reached_ends b (r ∷ later) ss items) first)

pub sets_count : (sets : List (List ℤ)) (numbers : List ℤ) (behind : List (List ℤ)) → sets ≡ numbers ∷ behind → length (indices sets) ≡ length numbers * length (indices behind)
sets_count sets numbers behind first =
    ap (λ (ss : List (List ℤ)). length (indices ss)) first ∙ length_all numbers (indices behind)

-- and ends
pub no_number : (b : Box) (r : Ends) (later : List Ends) (sets : List (List ℤ)) (numbers : List ℤ) (i : ℕ) (items : List Item) (hull : Option Ends) → length numbers ≤ i
    → grown hull (of_blocks b r later (drop i numbers) (indices sets) items) ≡ hull
no_number b r later sets numbers i items hull past =
    at_drop_all (λ (xs : List ℤ). grown hull (of_blocks b r later xs (indices sets) items)) numbers i past ∙ none items
  where
    none : (xs : List Item) → grown hull (of_blocks b r later [] (indices sets) xs) ≡ hull
    none [] = refl
    none (x ∷ xs) = refl

-- the first number that is found, and all of them
pub none_grown : (xs : List Ends) → grown None xs ≡ None → xs ≡ []
none_grown [] none = refl
none_grown (x ∷ xs) none = let some = grown_some x xs in absurd (cc)

pub some_grown : (xs : List Ends) (a : Ends) → grown None xs ≡ Some a → a ≡ hull_of xs
some_grown [] a is = absurd (cc)
some_grown (x ∷ xs) a is = let some = grown_some x xs in cc

-- what is seen of entries
entries_items : (b : Box) (lists : List (List ℤ)) (items : List Item) → length items ≡ length lists → item_intervals b (paired lists items) ≡ map (item_ends b) items
entries_items b [] [] complete = refl
entries_items b [] (item ∷ items) complete = absurd (omega (arith, complete))
entries_items b (xs ∷ lists) [] complete = refl
entries_items b (xs ∷ lists) (item ∷ items) complete = ap (λ (es : List Ends). item_ends b item ∷ es) (entries_items b lists items (omega (arith, complete)))

pub all_read : (b : Box) (table : Table) → length table.items ≡ length (indices table.sets) → item_intervals b (entries table) ≡ map (item_ends b) table.items
all_read b table complete = entries_items b (indices table.sets) table.items complete

-- how many elements each number of the first set has
pub width_is : (elements : List Element) (sets : List (List ℤ)) (numbers : List ℤ) (behind : List (List ℤ)) (width i : ℕ)
    → ((w : ℕ) → 0 < length numbers → length elements ≡ length numbers * w → width ≡ w) → i < length numbers → sets ≡ numbers ∷ behind → length elements ≡ length (indices sets)
    → width ≡ length (indices behind)
width_is elements sets numbers behind width i divided there first complete =
    divided (length (indices behind)) (omega (arith, there)) (complete ∙ sets_count sets numbers behind first)

-- dimensions of one number are passed by
pub none_wide : (sets : List (Vec ℤ Global)) → length sets ≡ 0 → IsWideFirst (sets_of sets)
none_wide [] none = tt
none_wide (set ∷ sets) none = absurd (omega (arith, none))

pub one_test : (set : List ℤ) → (length set ≡ 1 → is_one set ≡ true) × ((length set ≡ 1 → ⊥) → is_one set ≡ false)
one_test [] = ((λ one. absurd (omega (arith, one))), (λ other. refl))
one_test (n ∷ []) = ((λ one. refl), (λ other. absurd (other refl)))
one_test (n ∷ (m ∷ set)) = ((λ one. absurd (omega (arith, one))), (λ other. refl))

pub passed_one : (sets : List (Vec ℤ Global)) (set : Vec ℤ Global) (later : List (Vec ℤ Global)) → sets ≡ set ∷ later → length set.items ≡ 1 → wide_sets (sets_of sets) ≡ wide_sets (sets_of later)
passed_one sets set later is one =
    ap (λ (ss : List (Vec ℤ Global)). wide_sets (sets_of ss)) is
    ∙ ap (λ (b : Bool). if b then wide_sets (sets_of later) else set.items ∷ wide_sets (sets_of later)) ((one_test set.items).0 one)

pub first_wide : (sets : List (Vec ℤ Global)) (set : Vec ℤ Global) (later : List (Vec ℤ Global)) → sets ≡ set ∷ later → (length set.items ≡ 1 → ⊥) → IsWideFirst (sets_of sets)
first_wide sets set later is other =
    subst (λ (ss : List (Vec ℤ Global)). IsWideFirst (sets_of ss)) (sym is) ((one_test set.items).1 other)
