-- Where a set has a number, its block is there and nowhere before: no number stands twice in the set, or there are no elements.
use Rattle.std.proofs.Common.{◌≡◌, ℕ, zero, suc, ◌+◌, ◌*◌, ◌<◌, ◌≤◌, ℤ, Bool, false, List, [], ◌∷◌, ◌++◌, length, get_or, take, drop, Some, AllPairs, if◌then◌else◌, arith, Vec}
use Rattle.std.proofs.Common.{Global, refl, ap, subst, sym, ◌∙◌, length-append, zero-mul, drop-drop}
use Rattle.std.proofs.Math.Seq.{drop-nil}
use Rattle.std.specs.Ordering.{int_eq}
use Rattle.std.proofs.lemmas.Nat.{mul-le}
use Rattle.std.proofs.lemmas.List.{get_or_append_left, get_or-append-add}
use Rattle.sopl_base.proofs.Tests.{equal_tested}
use Rattle.term_language.specs.Arrays.{indices}
use Rattle.term_language.proofs.FormValues.{by_bool}
use Rattle.term_language.proofs.Operations.{equal_tests}
use Rattle.term_math.specs.Kept.{block, sets_of}
use Rattle.term_math.proofs.Blocks.{under, all_under, length_under, length_all, dimension_is}

abbrev pub Differ : {A : Type 0} → List A → Type 0
Differ xs = AllPairs (λ p q. ¬ p ≡ q) xs

later_differ : (here : ℤ) (set : List ℤ) → Differ (here ∷ set) → Differ set
later_differ here set differ = λ i j d before exists. differ (suc i) (suc j) d (omega arith) (omega arith)

unmet : (here : ℤ) (set : List ℤ) (p : ℕ) (number : ℤ) → Differ (here ∷ set) → p < length set → get_or set p number ≡ number → int_eq here number ≡ false
unmet here set p number differ below is =
    by_bool (λ b. int_eq here number ≡ b → b ≡ false) (int_eq here number)
    (λ met same. absurd (differ zero (suc p) number (omega arith) (omega (arith, below)) (equal_tested here number same ∙ sym is)))
    (λ other same. refl) refl

placed : {A : Type 0} (number : ℤ) (set : List ℤ) (width : ℕ) (xs : List A) (p : ℕ) → Differ set → p < length set → get_or set p number ≡ number → block number set width xs
    ≡ Some (take width (drop (p * width) xs))
placed number [] width xs p differ below is = absurd (omega (arith, below))
placed {A} number (here ∷ set) width xs zero differ below is =
    ap (λ (b : Bool). if b then Some (take width xs) else block number set width (drop width xs)) (equal_tests here number is)
    ∙ ap (λ (n : ℕ). Some (take width (drop n xs))) (sym (zero-mul width))
placed {A} number (here ∷ set) width xs (suc p) differ below is =
    ap (λ (b : Bool). if b then Some (take width xs) else block number set width (drop width xs)) (unmet here set p number differ (omega (arith, below)) is)
    ∙ placed number set width (drop width xs) p (later_differ here set differ) (omega (arith, below)) is
    ∙ ap (λ (ys : List A). Some (take width ys)) (drop-drop (p * width) width xs)
    ∙ ap (λ (n : ℕ). Some (take width (drop n xs))) (omega arith)

-- where there are no elements, each block is empty
no_elements : {A : Type 0} (number : ℤ) (set : List ℤ) (width : ℕ) (xs : List A) (p : ℕ) → xs ≡ [] → p < length set → get_or set p number ≡ number → block number set width xs ≡ Some (take width [])
no_elements number [] width xs p none below is = absurd (omega (arith, below))
no_elements {A} number (here ∷ set) width xs zero none below is =
    ap (λ (b : Bool). if b then Some (take width xs) else block number set width (drop width xs)) (equal_tests here number is)
    ∙ ap (λ (ys : List A). Some (take width ys)) none
no_elements {A} number (here ∷ set) width xs (suc p) none below is =
    by_bool (λ b. (if b then Some (take width xs) else block number set width (drop width xs)) ≡ Some (take width [])) (int_eq here number)
    (λ met. ap (λ (ys : List A). Some (take width ys)) none)
    (λ other. no_elements number set width (drop width xs) p (ap (drop width) none ∙ drop-nil width) (omega (arith, below)) is)

pub block_at : {A : Type 0} (number : ℤ) (set : List ℤ) (width : ℕ) (xs : List A) (p : ℕ) → (0 < length xs → Differ set) → p < length set → get_or set p number ≡ number → block number set width xs
    ≡ Some (take width (drop (p * width) xs))
block_at {A} number set width [] p differ below is =
    no_elements number set width [] p refl below is
    ∙ ap (λ (ys : List A). Some (take width ys)) (sym (drop-nil (p * width)))
block_at number set width (x ∷ xs) p differ below is = placed number set width (x ∷ xs) p (differ (omega arith)) below is

-- it lies within the elements
pub block_within : (p n width m : ℕ) → p < n → m ≡ n * width → p * width + width ≤ m
block_within p n width m below is = omega (arith, mul-le (p + 1) width n width (omega (arith, below)) (omega arith), is)

-- where no index stands twice, no number stands twice in the first set, and no index behind it
under_at : (here : ℤ) (lists : List (List ℤ)) (i : ℕ) (d : List ℤ) → i < length lists → get_or (under here lists) i d ≡ here ∷ get_or lists i d
under_at here [] i d below = absurd (omega (arith, below))
under_at here (ys ∷ lists) zero d below = refl
under_at here (ys ∷ lists) (suc i) d below = under_at here lists i d (omega (arith, below))

first_at : (set : List ℤ) (lists : List (List ℤ)) (i : ℕ) (z : ℤ) (d : List ℤ) → 0 < length lists → i < length set → get_or (all_under set lists) (i * length lists) d
    ≡ get_or set i z ∷ get_or lists 0 d
first_at [] lists i z d some below = absurd (omega (arith, below))
first_at (here ∷ set) lists zero z d some below =
    ap (λ (n : ℕ). get_or (under here lists ++ all_under set lists) n d) (zero-mul (length lists))
    ∙ get_or_append_left (under here lists) (all_under set lists) d 0 (omega (arith, length_under here lists, some))
    ∙ under_at here lists 0 d some
first_at (here ∷ set) lists (suc i) z d some below =
    ap (λ (n : ℕ). get_or (under here lists ++ all_under set lists) n d) (omega (arith, length_under here lists))
    ∙ get_or-append-add (under here lists) (all_under set lists) (i * length lists) d
    ∙ first_at set lists i z d some (omega (arith, below))

pub first_differ : (set : List ℤ) (lists : List (List ℤ)) → 0 < length lists → Differ (all_under set lists) → Differ set
first_differ set lists some differ =
    λ i j z before exists.
    λ same.
    let last : j * length lists < length (all_under set lists) =
    omega (arith, length_all set lists, some, mul-le (j + 1) (length lists) (length set) (length lists) (omega (arith, exists)) (omega arith)) in
    let order : i * length lists < j * length lists = omega (arith, some, mul-le (i + 1) (length lists) j (length lists) (omega (arith, before)) (omega arith)) in
    differ (i * length lists) (j * length lists) [] order last
    (first_at set lists i z [] some (omega (arith, before, exists))
    ∙ ap (λ (y : ℤ). y ∷ get_or lists 0 []) same
    ∙ sym (first_at set lists j z [] some exists))

pub rest_differ : (set : List ℤ) (lists : List (List ℤ)) → 0 < length set → Differ (all_under set lists) → Differ lists
rest_differ [] lists some differ = absurd (omega (arith, some))
rest_differ (here ∷ set) lists some differ =
    λ i j d before exists.
    λ same.
    let width = length_under here lists in
    let at : (k : ℕ) → k < length lists → get_or (all_under (here ∷ set) lists) k d ≡ here ∷ get_or lists k d =
    λ k below.
    get_or_append_left (under here lists) (all_under set lists) d k (omega (arith, width, below))
    ∙ under_at here lists k d below in
    differ i j d before (omega (arith, exists, width, length-append (under here lists) (all_under set lists)))
    (at i (omega (arith, before, exists)) ∙ ap (λ (ys : List ℤ). here ∷ ys) same ∙ sym (at j exists))

-- steps over the dimensions
pub block_some : {A : Type 0} (number : ℤ) (set : List ℤ) (width : ℕ) (xs found : List A) → block number set width xs ≡ Some found → 0 < length set
block_some number [] width xs found is = cc
block_some number (here ∷ set) width xs found is = omega arith

some_of_product : (m n k : ℕ) → 0 < m → m ≡ n * k → 0 < k
some_of_product m n zero some is = omega (arith, some, is)
some_of_product m n (suc k) some is = omega arith

pub dimension_differs : (count : ℕ) (xs : List (Vec ℤ Global)) (i : ℕ) (x : Vec ℤ Global) → i < length xs → x ≡ get_or xs i x → count ≡ length (indices (sets_of (drop i xs)))
    → Differ (indices (sets_of (drop i xs))) → 0 < count → Differ x.items
dimension_differs count xs i x below at complete differ some =
    let is = dimension_is xs i x below at in
    let lists = indices (sets_of (drop (i + 1) xs)) in
    first_differ x.items lists
    (some_of_product count (length x.items) (length lists) some (complete ∙ ap (λ (ls : List (List ℤ)). length ls) is ∙ length_all x.items lists))
    (subst Differ is differ)

pub behind_differs : (xs : List (Vec ℤ Global)) (i : ℕ) (x : Vec ℤ Global) → i < length xs → x ≡ get_or xs i x → 0 < length x.items → Differ (indices (sets_of (drop i xs)))
    → Differ (indices (sets_of (drop (i + 1) xs)))
behind_differs xs i x below at some differ =
    rest_differ x.items (indices (sets_of (drop (i + 1) xs))) some (subst Differ (dimension_is xs i x below at) differ)
