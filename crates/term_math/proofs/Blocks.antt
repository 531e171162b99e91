-- The item at an index, one dimension after the other.
use Rattle.std.proofs.Common.{◌≡◌, ℕ, zero, suc, ◌+◌, ◌*◌, ◌<◌, ◌≤◌, ℤ, Bool, true, false, ◌&&◌, List, [], ◌∷◌, ◌++◌, map, length, get_or, take, drop, Option, Some, None}
use Rattle.std.proofs.Common.{option_map, if◌then◌else◌, arith, refl, ap, sym, ◌∙◌, length-append, Vec, Global, ◌/◌, ◌%◌, mul_comm, zero-mul, div-add-mod'}
use Rattle.std.proofs.lemmas.Nat.{div-mul-add}
use Rattle.std.specs.List.{flat_map}
use Rattle.std.specs.Ordering.{int_eq}
use Rattle.std.proofs.lemmas.List.{at_drop_more, at_drop_all, length-drop, length-take-le}
use Rattle.term_language.specs.Terms.{Item}
use Rattle.term_language.specs.Arrays.{Entry, indices, paired, same_index, item_in}
use Rattle.term_language.proofs.FormValues.{by_bool}
use Rattle.term_math.specs.declared.elements.Element.{Element}
use Rattle.term_math.specs.Kept.{block, item_of, items_of, sets_of}

-- the indices that begin with a number
abbrev pub under : ℤ → List (List ℤ) → List (List ℤ)
under number lists = map (λ later. number ∷ later) lists

abbrev pub all_under : List ℤ → List (List ℤ) → List (List ℤ)
all_under set lists = flat_map (λ number. map (λ later. number ∷ later) lists) set

pub length_under : (number : ℤ) (lists : List (List ℤ)) → length (under number lists) ≡ length lists
length_under number [] = refl
length_under number (xs ∷ lists) = ap suc (length_under number lists)

pub length_all : (set : List ℤ) (lists : List (List ℤ)) → length (all_under set lists) ≡ length set * length lists
length_all [] lists = sym (zero-mul (length lists))
length_all (number ∷ set) lists = omega (arith, length-append (under number lists) (all_under set lists), length_under number lists, length_all set lists)

-- pairs of lists behind one another
pub paired_append : (xs ys : List (List ℤ)) (items : List Item) → length xs ≤ length items → paired (xs ++ ys) items ≡ paired xs (take (length xs) items) ++ paired ys (drop (length xs) items)
paired_append [] ys items most = refl
paired_append (x ∷ xs) ys [] most = absurd (omega (arith, most))
paired_append (x ∷ xs) ys (item ∷ items) most =
    ap (λ (es : List Entry). record { index = x; item = item } ∷ es) (paired_append xs ys items (omega (arith, most)))

found_first : (es fs : List Entry) (index : List ℤ) (item : Item) → item_in es index ≡ Some item → item_in (es ++ fs) index ≡ Some item
found_first [] fs index item is = cc
found_first (e ∷ es) fs index item is =
    by_bool (λ b. (if b then Some e.item else item_in es index) ≡ Some item → (if b then Some e.item else item_in (es ++ fs) index) ≡ Some item) (same_index e.index index)
    (λ same here. here) (λ other here. found_first es fs index item here) is

found_later : (es fs : List Entry) (index : List ℤ) → item_in es index ≡ None → item_in (es ++ fs) index ≡ item_in fs index
found_later [] fs index is = refl
found_later (e ∷ es) fs index is =
    by_bool (λ b. (if b then Some e.item else item_in es index) ≡ None → (if b then Some e.item else item_in (es ++ fs) index) ≡ item_in fs index) (same_index e.index index)
    (λ same here. absurd (cc)) (λ other here. found_later es fs index here) is

-- the indices under a number
under_it : (here number : ℤ) (rest : List ℤ) (lists : List (List ℤ)) (items : List Item) → int_eq here number ≡ true → item_in (paired (under here lists) items) (number ∷ rest)
    ≡ item_in (paired lists items) rest
under_it here number rest [] items same = refl
under_it here number rest (xs ∷ lists) [] same = refl
under_it here number rest (xs ∷ lists) (item ∷ items) same =
    ap (λ (b : Bool). if b && same_index xs rest then Some item else item_in (paired (under here lists) items) (number ∷ rest)) same
    ∙ ap (λ (v : Option Item). if same_index xs rest then Some item else v) (under_it here number rest lists items same)

under_another : (here number : ℤ) (rest : List ℤ) (lists : List (List ℤ)) (items : List Item) → int_eq here number ≡ false → item_in (paired (under here lists) items) (number ∷ rest) ≡ None
under_another here number rest [] items other = refl
under_another here number rest (xs ∷ lists) [] other = refl
under_another here number rest (xs ∷ lists) (item ∷ items) other =
    ap (λ (b : Bool). if b && same_index xs rest then Some item else item_in (paired (under here lists) items) (number ∷ rest)) other
    ∙ under_another here number rest lists items other

-- an index that one list of items has not, no other has
no_item : (rest : List ℤ) (lists : List (List ℤ)) (items others : List Item) → length items ≡ length lists → item_in (paired lists items) rest ≡ None → item_in (paired lists others) rest ≡ None
no_item rest [] items others complete none = refl
no_item rest (xs ∷ lists) [] others complete none = absurd (omega (arith, complete))
no_item rest (xs ∷ lists) (item ∷ items) [] complete none = refl
no_item rest (xs ∷ lists) (item ∷ items) (another ∷ others) complete none =
    by_bool (λ b. (if b then Some item else item_in (paired lists items) rest) ≡ None → (if b then Some another else item_in (paired lists others) rest) ≡ None) (same_index xs rest)
    (λ same here. absurd (cc)) (λ other here. no_item rest lists items others (omega (arith, complete)) here) none

none_under : (here number : ℤ) (rest : List ℤ) (lists : List (List ℤ)) (items others : List Item) → length items ≡ length lists → item_in (paired lists items) rest ≡ None
    → item_in (paired (under here lists) others) (number ∷ rest) ≡ None
none_under here number rest lists items others complete none =
    by_bool (λ b. int_eq here number ≡ b → item_in (paired (under here lists) others) (number ∷ rest) ≡ None) (int_eq here number)
    (λ met same. under_it here number rest lists others same ∙ no_item rest lists items others complete none)
    (λ unmet other. under_another here number rest lists others other) refl

-- what is left behind the first of so many
left : (n w : ℕ) (items : List Item) → length items ≡ suc n * w → length (drop w items) ≡ n * w
left n w items complete = omega (arith, length-drop w items, complete)

none_under_all : (number : ℤ) (rest : List ℤ) (set : List ℤ) (lists : List (List ℤ)) (items others : List Item) → length items ≡ length lists → item_in (paired lists items) rest ≡ None
    → length others ≡ length set * length lists → item_in (paired (all_under set lists) others) (number ∷ rest) ≡ None
none_under_all number rest [] lists items others complete none all = refl
none_under_all number rest (here ∷ set) lists items others complete none all =
    let width = length_under here lists in
    ap (λ (es : List Entry). item_in es (number ∷ rest)) (paired_append (under here lists) (all_under set lists) others (omega (arith, width, all)))
    ∙ found_later (paired (under here lists) (take (length (under here lists)) others)) (paired (all_under set lists) (drop (length (under here lists)) others)) (number ∷ rest)
    (none_under here number rest lists items (take (length (under here lists)) others) complete none)
    ∙ ap (λ (n : ℕ). item_in (paired (all_under set lists) (drop n others)) (number ∷ rest)) width
    ∙ none_under_all number rest set lists items (drop (length lists) others) complete none (left (length set) (length lists) others all)

-- the item of an index in the block of its first number
abbrev pub look : List (List ℤ) → List ℤ → Option (List Item) → Option Item
look lists rest None = None
look lists rest (Some items) = item_in (paired lists items) rest

by_found : (P : Option Item → Type 0) (v : Option Item) → (v ≡ None → P None) → ((item : Item) → v ≡ Some item → P (Some item)) → P v
by_found P None missing found = missing refl
by_found P (Some item) missing found = found item refl

here_found : (here number : ℤ) (rest : List ℤ) (set : List ℤ) (lists : List (List ℤ)) (items : List Item) → int_eq here number ≡ true → length items ≡ suc (length set) * length lists
    → item_in (paired (under here lists) (take (length lists) items) ++ paired (all_under set lists) (drop (length lists) items)) (number ∷ rest)
    ≡ item_in (paired lists (take (length lists) items)) rest
here_found here number rest set lists items same complete =
    let first = under_it here number rest lists (take (length lists) items) same in
    by_found (λ v. item_in (paired lists (take (length lists) items)) rest ≡ v
    → item_in (paired (under here lists) (take (length lists) items) ++ paired (all_under set lists) (drop (length lists) items)) (number ∷ rest)
    ≡ v) (item_in (paired lists (take (length lists) items)) rest)
    (λ missing is.
    found_later (paired (under here lists) (take (length lists) items)) (paired (all_under set lists) (drop (length lists) items)) (number ∷ rest) (first ∙ is)
    ∙ none_under_all number rest set lists (take (length lists) items) (drop (length lists) items) (length-take-le (length lists) items (omega (arith, complete))) is
    (left (length set) (length lists) items complete))
    (λ item found is. found_first (paired (under here lists) (take (length lists) items)) (paired (all_under set lists) (drop (length lists) items)) (number ∷ rest) item (first ∙ is))
    refl

pub look_is : (number : ℤ) (rest : List ℤ) (set : List ℤ) (lists : List (List ℤ)) (items : List Item) → length items ≡ length set * length lists
    → item_in (paired (all_under set lists) items) (number ∷ rest) ≡ look lists rest (block number set (length lists) items)
look_is number rest [] lists items complete = refl
look_is number rest (here ∷ set) lists items complete =
    let width = length_under here lists in
    ap (λ (es : List Entry). item_in es (number ∷ rest)) (paired_append (under here lists) (all_under set lists) items (omega (arith, width, complete)))
    ∙ ap (λ (n : ℕ). item_in (paired (under here lists) (take n items) ++ paired (all_under set lists) (drop n items)) (number ∷ rest)) width
    ∙ by_bool (λ b. int_eq here number ≡ b → item_in (paired (under here lists) (take (length lists) items) ++ paired (all_under set lists) (drop (length lists) items)) (number ∷ rest)
    ≡ look lists rest (if b then Some (take (length lists) items) else block number set (length lists) (drop (length lists) items))) (int_eq here number)
    (λ met same. here_found here number rest set lists items same complete)
    (λ unmet other.
    found_later (paired (under here lists) (take (length lists) items)) (paired (all_under set lists) (drop (length lists) items)) (number ∷ rest)
    (under_another here number rest lists (take (length lists) items) other)
    ∙ look_is number rest set lists (drop (length lists) items) (left (length set) (length lists) items complete)) refl

-- an index that ends too early is none
abbrev AreLonger : List (List ℤ) → Type 0
AreLonger [] = Unit {0}
AreLonger ([] ∷ lists) = ⊥
AreLonger ((x ∷ xs) ∷ lists) = AreLonger lists

longer_under : (number : ℤ) (lists more : List (List ℤ)) → AreLonger more → AreLonger (under number lists ++ more)
longer_under number [] more longer = longer
longer_under number (xs ∷ lists) more longer = longer_under number lists more longer

longer_all : (set : List ℤ) (lists : List (List ℤ)) → AreLonger (all_under set lists)
longer_all [] lists = tt
longer_all (number ∷ set) lists = longer_under number lists (all_under set lists) (longer_all set lists)

ended : (lists : List (List ℤ)) (items : List Item) → AreLonger lists → item_in (paired lists items) [] ≡ None
ended [] items longer = refl
ended ([] ∷ lists) items longer = absurd longer
ended ((x ∷ xs) ∷ lists) [] longer = refl
ended ((x ∷ xs) ∷ lists) (item ∷ items) longer = ended lists items longer

pub ended_early : (set : List ℤ) (lists : List (List ℤ)) (items : List Item) → item_in (paired (all_under set lists) items) [] ≡ None
ended_early set lists items = ended (all_under set lists) items (longer_all set lists)

-- blocks of elements as they are kept
pub block_length : (number : ℤ) (set : List ℤ) (width : ℕ) (xs found : List Element) → length xs ≡ length set * width → block number set width xs ≡ Some found → length found ≡ width
block_length number [] width xs found complete is = cc
block_length number (here ∷ set) width xs found complete is =
    by_bool (λ b. (if b then Some (take width xs) else block number set width (drop width xs)) ≡ Some found → length found ≡ width) (int_eq here number)
    (λ same taken. let first : take width xs ≡ found = cc in ap length (sym first) ∙ length-take-le width xs (omega (arith, complete)))
    (λ other later. block_length number set width (drop width xs) found (omega (arith, length-drop width xs, complete)) later) is

items_take : (n : ℕ) (xs : List Element) → items_of (take n xs) ≡ take n (items_of xs)
items_take zero xs = refl
items_take (suc n) [] = refl
items_take (suc n) (x ∷ xs) = ap (λ (is : List Item). item_of x ∷ is) (items_take n xs)

items_drop : (n : ℕ) (xs : List Element) → items_of (drop n xs) ≡ drop n (items_of xs)
items_drop zero xs = refl
items_drop (suc n) [] = refl
items_drop (suc n) (x ∷ xs) = items_drop n xs

pub block_items : (number : ℤ) (set : List ℤ) (width : ℕ) (xs : List Element) → option_map items_of (block number set width xs) ≡ block number set width (items_of xs)
block_items number [] width xs = refl
block_items number (here ∷ set) width xs =
    by_bool (λ b. option_map items_of (if b then Some (take width xs) else block number set width (drop width xs))
    ≡ (if b then Some (take width (items_of xs)) else block number set width (drop width (items_of xs)))) (int_eq here number)
    (λ same. ap (λ (is : List Item). Some is) (items_take width xs))
    (λ other. block_items number set width (drop width xs) ∙ ap (block number set width) (items_drop width xs))

-- steps over the numbers of a set
pub next_block : (number : ℤ) (width : ℕ) (ys : List Element) (xs : List ℤ) (i : ℕ) (x : ℤ) → i < length xs → x ≡ get_or xs i x → block number (drop i xs) width ys
    ≡ if int_eq x number then Some (take width ys) else block number (drop (i + 1) xs) width (drop width ys)
next_block number width ys xs i x below at =
    at_drop_more (λ zs. block number zs width ys) xs i x below
    ∙ ap (λ (z : ℤ). if int_eq z number then Some (take width ys) else block number (drop (i + 1) xs) width (drop width ys)) (sym at)

pub no_block : (number : ℤ) (width : ℕ) (ys : List Element) (xs : List ℤ) (i : ℕ) → length xs ≤ i → block number (drop i xs) width ys ≡ None
no_block number width ys xs i past = at_drop_all (λ zs. block number zs width ys) xs i past

pub next_left : (number : ℤ) (set : List ℤ) (width : ℕ) (elements left later : List Element) (i : ℕ) (here : ℤ) → i < length set → here ≡ get_or set i here → int_eq here number ≡ false
    → later ≡ drop width left → length later + width ≡ length left → block number set width elements ≡ block number (drop i set) width left → length left ≡ length (drop i set) * width
    → (block number set width elements ≡ block number (drop (i + 1) set) width later) × (length later ≡ length (drop (i + 1) set) * width)
next_left number set width elements left later i here below at other behind length_behind so_far complete =
    let more : length (drop i set) ≡ suc (length (drop (i + 1) set)) = omega (arith, length-drop i set, length-drop (i + 1) set, below) in (
      so_far
          ∙ next_block number width left set i here below at
          ∙ ap (λ (b : Bool). if b then Some (take width left) else block number (drop (i + 1) set) width (drop width left)) other
          ∙ ap (block number (drop (i + 1) set) width) (sym behind),
      omega (arith, length_behind, complete ∙ ap (λ (k : ℕ). k * width) more),
    )

-- steps over the dimensions
pub dimension_is : (xs : List (Vec ℤ Global)) (i : ℕ) (x : Vec ℤ Global) → i < length xs → x ≡ get_or xs i x → indices (sets_of (drop i xs)) ≡ all_under x.items (indices (sets_of (drop (i + 1) xs)))
dimension_is xs i x below at =
    at_drop_more (λ ys. indices (sets_of ys)) xs i x below
    ∙ ap (λ (y : Vec ℤ Global). all_under y.items (indices (sets_of (drop (i + 1) xs)))) (sym at)

pub next_dimension : (elements : List Element) (number : ℤ) (later : List ℤ) (xs : List (Vec ℤ Global)) (i : ℕ) (x : Vec ℤ Global) → i < length xs → x ≡ get_or xs i x → length elements
    ≡ length (indices (sets_of (drop i xs))) → item_in (paired (indices (sets_of (drop i xs))) (items_of elements)) (number ∷ later)
    ≡ look (indices (sets_of (drop (i + 1) xs))) later (block number x.items (length (indices (sets_of (drop (i + 1) xs)))) (items_of elements))
next_dimension elements number later xs i x below at complete =
    let dimension : indices (sets_of (drop i xs)) ≡ all_under x.items (indices (sets_of (drop (i + 1) xs))) = dimension_is xs i x below at in
    ap (λ (ls : List (List ℤ)). item_in (paired ls (items_of elements)) (number ∷ later)) dimension
    ∙ look_is number later x.items (indices (sets_of (drop (i + 1) xs))) (items_of elements) (items_length elements ∙ complete ∙ ap (λ (ls : List (List ℤ)). length ls) dimension
    ∙ length_all x.items (indices (sets_of (drop (i + 1) xs))))
  where
    items_length : (xs : List Element) → length (items_of xs) ≡ length xs
    items_length [] = refl
    items_length (x ∷ xs) = ap suc (items_length xs)

pub too_short : (elements : List Element) (rest : List ℤ) (xs : List (Vec ℤ Global)) (i : ℕ) (x : Vec ℤ Global) → i < length xs → x ≡ get_or xs i x → length rest ≡ 0
    → item_in (paired (indices (sets_of (drop i xs))) (items_of elements)) rest ≡ None
too_short elements [] xs i x below at none =
    ap (λ (ls : List (List ℤ)). item_in (paired ls (items_of elements)) []) (dimension_is xs i x below at)
    ∙ ended_early x.items (indices (sets_of (drop (i + 1) xs))) (items_of elements)
too_short elements (number ∷ rest) xs i x below at none = absurd (omega (arith, none))

pub part_complete : (elements : List Element) (xs : List (Vec ℤ Global)) (i : ℕ) (x : Vec ℤ Global) → i < length xs → x ≡ get_or xs i x → length elements ≡ length (indices (sets_of (drop i xs)))
    → length elements ≡ length x.items * length (indices (sets_of (drop (i + 1) xs)))
part_complete elements xs i x below at complete =
    complete ∙ ap (λ (ls : List (List ℤ)). length ls) (dimension_is xs i x below at) ∙ length_all x.items (indices (sets_of (drop (i + 1) xs)))

pub missing_number : (elements : List Element) (number : ℤ) (later : List ℤ) (xs : List (Vec ℤ Global)) (i : ℕ) (x : Vec ℤ Global) → i < length xs → x ≡ get_or xs i x → length elements
    ≡ length (indices (sets_of (drop i xs))) → block number x.items (length (indices (sets_of (drop (i + 1) xs)))) elements ≡ None
    → item_in (paired (indices (sets_of (drop i xs))) (items_of elements)) (number ∷ later) ≡ None
missing_number elements number later xs i x below at complete none =
    next_dimension elements number later xs i x below at complete
    ∙ ap (look (indices (sets_of (drop (i + 1) xs))) later) (sym (block_items number x.items (length (indices (sets_of (drop (i + 1) xs)))) elements) ∙ ap (option_map items_of) none)

pub found_number : (elements : List Element) (number : ℤ) (later : List ℤ) (xs : List (Vec ℤ Global)) (i : ℕ) (x : Vec ℤ Global) (found : List Element) → i < length xs → x ≡ get_or xs i x
    → length elements ≡ length (indices (sets_of (drop i xs))) → block number x.items (length (indices (sets_of (drop (i + 1) xs)))) elements ≡ Some found
    → item_in (paired (indices (sets_of (drop i xs))) (items_of elements)) (number ∷ later) ≡ item_in (paired (indices (sets_of (drop (i + 1) xs))) (items_of found)) later
found_number elements number later xs i x found below at complete is =
    next_dimension elements number later xs i x below at complete
    ∙ ap (look (indices (sets_of (drop (i + 1) xs))) later) (sym (block_items number x.items (length (indices (sets_of (drop (i + 1) xs)))) elements) ∙ ap (option_map items_of) is)

pub no_dimension : (elements : List Element) (rest : List ℤ) (xs : List (Vec ℤ Global)) (i : ℕ) → length xs ≤ i → item_in (paired (indices (sets_of (drop i xs))) (items_of elements)) rest
    ≡ item_in (paired ([] ∷ []) (items_of elements)) rest
no_dimension elements rest xs i past = at_drop_all (λ ys. item_in (paired (indices (sets_of ys)) (items_of elements)) rest) xs i past

pub one_left : (xs : List (Vec ℤ Global)) (i : ℕ) → length xs ≤ i → length (indices (sets_of (drop i xs))) ≡ 1
one_left xs i past = at_drop_all (λ ys. length (indices (sets_of ys))) xs i past

-- how many elements each number of a set has
pub no_numbers : (number : ℤ) (set : List ℤ) (width : ℕ) (elements : List Element) → length set ≡ 0 → block number set width elements ≡ None
no_numbers number [] width elements none = refl
no_numbers number (x ∷ set) width elements none = absurd (omega (arith, none))

turned_count : (m n width : ℕ) → m ≡ n * width → m ≡ width * n + 0
turned_count m n width is = omega (arith, is, mul_comm n width)

pub is_divided : (m n width : ℕ) → 0 < n → m ≡ n * width → m / n ≡ width
is_divided m n width positive is = ap (λ (k : ℕ). k / n) (turned_count m n width is) ∙ div-mul-add width n 0 positive

pub divided_count : (m n : ℕ) → m % n ≡ 0 → m ≡ n * (m / n)
divided_count m n exact = omega (arith, div-add-mod' m n, mul_comm n (m / n), exact)
