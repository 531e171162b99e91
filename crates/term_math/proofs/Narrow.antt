-- Dimensions of one number: they say yes or no, and no interval has to be kept for them.
use Rattle.std.proofs.Common.{◌≡◌, ℕ, ◌*◌, ◌≤◌, ℤ, Bool, true, false, ◌&&◌, List, [], ◌∷◌, ◌++◌, length, take, drop, if◌then◌else◌, append-nil, arith, refl, ap, sym, ◌∙◌}
use Rattle.std.proofs.lemmas.List.{length-drop, length-take-le}
use Rattle.box_problem.specs.Box.{Box}
use Rattle.term_language.specs.Arrays.{indices, paired}
use Rattle.term_language.specs.Ends.{Ends, has}
use Rattle.term_language.specs.Terms.{Item}
use Rattle.term_language.proofs.FormValues.{by_bool}
use Rattle.term_math.specs.Within.{is_one, has_one, wide_sets, if_allowed, reached_ends}
use Rattle.term_math.proofs.Blocks.{under, length_all}
use Rattle.term_math.proofs.Reaching.{item_intervals, within, of_blocks, under_in, under_out, block_first}

-- the intervals of sets that have not one number
abbrev pub wide_ranges : List Ends → List (List ℤ) → List Ends
wide_ranges [] sets = []
wide_ranges (r ∷ rs) [] = []
wide_ranges (r ∷ rs) (set ∷ sets) = if is_one set then wide_ranges rs sets else r ∷ wide_ranges rs sets

abbrev pub ones_allow : List Ends → List (List ℤ) → Bool
ones_allow [] sets = true
ones_allow (r ∷ rs) [] = true
ones_allow (r ∷ rs) (set ∷ sets) = has_one r set && ones_allow rs sets

-- as many indices either way
pub same_count : (sets : List (List ℤ)) → length (indices (wide_sets sets)) ≡ length (indices sets)
same_count [] = refl
same_count ([] ∷ sets) = refl
same_count ((n ∷ []) ∷ sets) =
    same_count sets ∙ (let once : 1 * length (indices sets) ≡ length (indices sets) = omega arith in sym (length_all (n ∷ []) (indices sets) ∙ once))
same_count ((n ∷ (m ∷ set)) ∷ sets) =
    length_all (n ∷ (m ∷ set)) (indices (wide_sets sets)) ∙ ap (λ (k : ℕ). length (n ∷ (m ∷ set)) * k) (same_count sets) ∙ sym (length_all (n ∷ (m ∷ set)) (indices sets))

-- a set of one number
one_set : (b : Box) (r : Ends) (rs : List Ends) (n : ℤ) (sets : List (List ℤ)) (items : List Item) → reached_ends b (r ∷ rs) ((n ∷ []) ∷ sets) items
    ≡ if_allowed (has r n) (reached_ends b rs sets items)
one_set b r rs n sets items =
    ap (λ (ls : List (List ℤ)). item_intervals b (within (r ∷ rs) (paired ls items))) (append-nil (under n (indices sets)))
    ∙ by_bool (λ t. has r n ≡ t → item_intervals b (within (r ∷ rs) (paired (under n (indices sets)) items)) ≡ if_allowed t (reached_ends b rs sets items)) (has r n)
    (λ met is. under_in b r rs n (indices sets) items is) (λ unmet is. under_out b r rs n (indices sets) items is) refl

-- what is said of the later dimensions
abbrev pub Agrees : Box → List Ends → List (List ℤ) → List Ends → List (List ℤ) → Bool → Type 0
Agrees b rs sets qs ss allowed =
    (items : List Item) → length items ≡ length (indices sets) → reached_ends b rs sets items ≡ if_allowed allowed (reached_ends b qs ss items)

both_empty : (allowed : Bool) (xs ys : List Ends) → if_allowed allowed xs ++ if_allowed allowed ys ≡ if_allowed allowed (xs ++ ys)
both_empty true xs ys = refl
both_empty false xs ys = refl

none_either : (allowed : Bool) → [] ≡ if_allowed allowed []
none_either true = refl
none_either false = refl

-- the blocks of a set, one number after the other
pub blocks_agree : (b : Box) (r : Ends) (rs : List Ends) (set : List ℤ) (sets : List (List ℤ)) (qs : List Ends) (ss : List (List ℤ)) (allowed : Bool) → length (indices ss) ≡ length (indices sets)
    → Agrees b rs sets qs ss allowed → (items : List Item) → length items ≡ length set * length (indices sets)
    → of_blocks b r rs set (indices sets) items ≡ if_allowed allowed (of_blocks b r qs set (indices ss) items)
blocks_agree b r rs [] sets qs ss allowed same agree items count = none_either allowed
blocks_agree b r rs (n ∷ set) sets qs ss allowed same agree items count =
    let width : ℕ = length (indices sets) in
    let some : width ≤ length items = omega (arith, count) in
    let later = blocks_agree b r rs set sets qs ss allowed same agree (drop width items) (length-drop width items ∙ omega (arith, count)) in
    let first = by_bool (λ t. has r n ≡ t → item_intervals b (within (r ∷ rs) (paired (under n (indices sets)) (take width items)))
    ≡ if_allowed allowed (item_intervals b (within (r ∷ qs) (paired (under n (indices ss)) (take width items))))) (has r n)
    (λ met is.
    under_in b r rs n (indices sets) (take width items) is ∙ agree (take width items) (length-take-le width items some)
    ∙ ap (if_allowed allowed) (sym (under_in b r qs n (indices ss) (take width items) is)))
    (λ unmet is.
    under_out b r rs n (indices sets) (take width items) is ∙ none_either allowed ∙ ap (if_allowed allowed) (sym (under_out b r qs n (indices ss) (take width items) is)))
    refl in
    block_first b r rs n set (indices sets) items some
    ∙ ap (λ (es : List Ends). es ++ of_blocks b r rs set (indices sets) (drop width items)) first
    ∙ ap (λ (es : List Ends). if_allowed allowed (item_intervals b (within (r ∷ qs) (paired (under n (indices ss)) (take width items)))) ++ es) later
    ∙ both_empty allowed (item_intervals b (within (r ∷ qs) (paired (under n (indices ss)) (take width items)))) (of_blocks b r qs set (indices ss) (drop width items))
    ∙ ap (if_allowed allowed) (
    ap (λ (k : ℕ). item_intervals b (within (r ∷ qs) (paired (under n (indices ss)) (take k items))) ++ of_blocks b r qs set (indices ss) (drop k items)) (sym same)
    ∙ sym (block_first b r qs n set (indices ss) items (omega (arith, same, some))))

and_allowed : (s t : Bool) (xs : List Ends) → if_allowed s (if_allowed t xs) ≡ if_allowed (s && t) xs
and_allowed true t xs = refl
and_allowed false t xs = refl

-- intervals and sets are as many: the elements that are reached are those of the wide sets, where the intervals have all numbers that stand alone
pub narrow_is : (b : Box) (rs : List Ends) (sets : List (List ℤ)) → length rs ≡ length sets → Agrees b rs sets (wide_ranges rs sets) (wide_sets sets) (ones_allow rs sets)
narrow_is b [] [] many items count = refl
narrow_is b [] (set ∷ sets) many items count = absurd (omega (arith, many))
narrow_is b (r ∷ rs) [] many items count = absurd (omega (arith, many))
narrow_is b (r ∷ rs) ([] ∷ sets) many items count = none_either (ones_allow rs sets)
narrow_is b (r ∷ rs) ((n ∷ []) ∷ sets) many items count =
    let once : 1 * length (indices sets) ≡ length (indices sets) = omega arith in
    one_set b r rs n sets items
    ∙ ap (if_allowed (has r n)) (narrow_is b rs sets (omega (arith, many)) items (count ∙ length_all (n ∷ []) (indices sets) ∙ once))
    ∙ and_allowed (has r n) (ones_allow rs sets) (reached_ends b (wide_ranges rs sets) (wide_sets sets) items)
narrow_is b (r ∷ rs) ((n ∷ (m ∷ set)) ∷ sets) many items count =
    blocks_agree b r rs (n ∷ (m ∷ set)) sets (wide_ranges rs sets) (wide_sets sets) (ones_allow rs sets) (same_count sets) (narrow_is b rs sets (omega (arith, many))) items
    (count ∙ length_all (n ∷ (m ∷ set)) (indices sets))
