-- The array of elements whose indices are all that some sets have, in whatever order, has these elements and no others.
use Rattle.std.proofs.Common.{◌≡◌, ◌∙◌, refl, sym, ap, subst, arith, ℕ, zero, suc, ◌+◌, ◌<◌, ℤ, pos, Bool, true, false, ◌||◌, List, [], ◌∷◌, length, map, get_or, ◌⊎◌, inl}
use Rattle.std.proofs.Common.{inr, Option, Some, None, if◌then◌else◌}
use Rattle.std.specs.BTreeSet.{insert_key}
use Rattle.std.specs.List.{fold, list_any, range_with_len}
use Rattle.std.specs.Option.{unwrap_or}
use Rattle.std.specs.Ordering.{int_cmp}
use Rattle.sopl_base.proofs.Booleans.{impossible}
use Rattle.lang_laws.proofs.Holding.{from_inserted, to_inserted}
use Rattle.policy_tree.proofs.Members.{In, In-map, from_map, In-flat_map, from_flat_map}
use Rattle.term_language.specs.Terms.{Item, Fixed}
use Rattle.term_language.specs.Arrays.{Entry, indices, item_in, paired, same_index}
use Rattle.term_language.proofs.Elements.{same_index_is, same_index_refl}
use Rattle.compile_laws.specs.Instances.{sets_of}
use Rattle.compile_laws.specs.Laws.{IsArray}

-- Indices.

-- whether an index is one of these
abbrev is_listed : List (List ℤ) → List ℤ → Bool
is_listed is index = list_any (λ other. same_index other index) is

listed : (is : List (List ℤ)) (index : List ℤ) → In index is → is_listed is index ≡ true
listed [] index h = absurd h
listed (i ∷ is) index (inl e) = ap (λ b. b || is_listed is index) (subst (λ j. same_index j index ≡ true) (sym e) (same_index_refl index))
listed (i ∷ is) index (inr h) = by_first (same_index i index) (listed is index h)
  where
    by_first : (b : Bool) → is_listed is index ≡ true → (b || is_listed is index) ≡ true
    by_first true later = refl
    by_first false later = later

from_listed : (is : List (List ℤ)) (index : List ℤ) → is_listed is index ≡ true → In index is
from_listed [] index h = absurd (cc)
from_listed (i ∷ is) index h = by_first (same_index i index) refl h (from_listed is index)
  where
    by_first : (b : Bool) → same_index i index ≡ b → (b || is_listed is index) ≡ true → (is_listed is index ≡ true → In index is) → In index (i ∷ is)
    by_first true e g later = inl (same_index_is i index e)
    by_first false e g later = inr (later g)

-- each number of an index stands in its set
abbrev pub AreIn : List ℤ → List (List ℤ) → Type 0
AreIn [] [] = Unit {0}
AreIn [] (s ∷ sets) = ⊥
AreIn (x ∷ xs) [] = ⊥
AreIn (x ∷ xs) (s ∷ sets) = In x s × AreIn xs sets

pub in_indices : (index : List ℤ) (sets : List (List ℤ)) → AreIn index sets → In index (indices sets)
in_indices [] [] are = inl refl
in_indices [] (s ∷ sets) are = absurd are
in_indices (x ∷ xs) [] are = absurd are
in_indices (x ∷ xs) (s ∷ sets) are =
    In-flat_map (λ number. map (λ later. number ∷ later) (indices sets)) s x (x ∷ xs) are.0
    (In-map (λ later. x ∷ later) (indices sets) xs (in_indices xs sets are.1))

pub from_indices : (index : List ℤ) (sets : List (List ℤ)) → In index (indices sets) → AreIn index sets
from_indices index [] (inl e) = subst (λ i. AreIn i []) e tt
from_indices index [] (inr h) = absurd h
from_indices index (s ∷ sets) h =
    let first = from_flat_map (λ number. map (λ later. number ∷ later) (indices sets)) s index h in
    let rest = from_map (λ later. first.0 ∷ later) (indices sets) index first.2 in
    subst (λ i. AreIn i (s ∷ sets)) rest.2 (first.1, from_indices rest.0 sets rest.1)

-- Sets of numbers.

in_kept : (zs xs : List ℤ) (x : ℤ) → In x xs → In x (fold (insert_key int_cmp) xs zs)
in_kept [] xs x h = h
in_kept (z ∷ zs) xs x h = in_kept zs (insert_key int_cmp xs z) x (to_inserted z xs x (inr h))

in_set : (zs xs : List ℤ) (x : ℤ) → In x zs → In x (fold (insert_key int_cmp) xs zs)
in_set [] xs x h = absurd h
in_set (z ∷ zs) xs x (inl e) = in_kept zs (insert_key int_cmp xs z) x (to_inserted z xs x (inl e))
in_set (z ∷ zs) xs x (inr h) = in_set zs (insert_key int_cmp xs z) x h

from_set : (zs xs : List ℤ) (x : ℤ) → In x (fold (insert_key int_cmp) xs zs) → In x xs ⊎ In x zs
from_set [] xs x h = inl h
from_set (z ∷ zs) xs x h = by_parts (from_set zs (insert_key int_cmp xs z) x h)
  where
    by_first : (z ≡ x) ⊎ In x xs → In x xs ⊎ In x (z ∷ zs)
    by_first (inl e) = inr (inl e)
    by_first (inr r) = inl r

    by_parts : In x (insert_key int_cmp xs z) ⊎ In x zs → In x xs ⊎ In x (z ∷ zs)
    by_parts (inl g) = by_first (from_inserted z xs x g)
    by_parts (inr g) = inr (inr g)

-- Columns.

-- the numbers that stand at a place of indices
abbrev pub column : List (List ℤ) → ℕ → List ℤ
column is place = fold (insert_key int_cmp) [] (map (λ index. get_or index place (pos 0)) is)

abbrev pub columns : List (List ℤ) → ℕ → ℕ → List (List ℤ)
columns is first n = map (column is) (range_with_len first n)

pub in_column : (is : List (List ℤ)) (index : List ℤ) (place : ℕ) → In index is → In (get_or index place (pos 0)) (column is place)
in_column is index place h = in_set (map (λ index. get_or index place (pos 0)) is) [] (get_or index place (pos 0)) (In-map (λ index. get_or index place (pos 0)) is index h)

pub from_column : (is : List (List ℤ)) (place : ℕ) (x : ℤ) → In x (column is place) → (index : List ℤ) × In index is × (get_or index place (pos 0) ≡ x)
from_column is place x h = by_parts (from_set (map (λ index. get_or index place (pos 0)) is) [] x h)
  where
    by_parts : In x [] ⊎ In x (map (λ index. get_or index place (pos 0)) is) → (index : List ℤ) × In index is × (get_or index place (pos 0) ≡ x)
    by_parts (inl g) = absurd g
    by_parts (inr g) = from_map (λ index. get_or index place (pos 0)) is x g

-- an index of these, from a place on
in_columns : (is : List (List ℤ)) (index : List ℤ) → In index is → (first : ℕ) (rest : List ℤ)
    → ((k : ℕ) → k < length rest → get_or rest k (pos 0) ≡ get_or index (first + k) (pos 0)) → AreIn rest (columns is first (length rest))
in_columns is index h first [] each = tt
in_columns is index h first (x ∷ rest) each = (
  subst (λ z. In z (column is first)) (sym here) (in_column is index first h),
  in_columns is index h (first + 1) rest (λ k below. each (suc k) (omega (arith, below)) ∙ ap (λ n. get_or index n (pos 0)) (omega arith)),
)
  where
    here : x ≡ get_or index first (pos 0)
    here = each 0 (omega arith) ∙ ap (λ n. get_or index n (pos 0)) (omega arith)

-- what stands in the columns stands in the sets from which the indices are
in_sets : (is : List (List ℤ)) (sets : List (List ℤ)) → ((index : List ℤ) → In index is → AreIn index sets) → (first : ℕ) (xs : List ℤ) (later : List (List ℤ))
    → ((index : List ℤ) → AreIn index sets → (k : ℕ) → k < length later → In (get_or index (first + k) (pos 0)) (get_or later k []))
    → AreIn xs (columns is first (length later)) → AreIn xs later
in_sets is sets are first [] [] from h = tt
in_sets is sets are first [] (s ∷ later) from h = absurd h
in_sets is sets are first (x ∷ xs) [] from h = absurd h
in_sets is sets are first (x ∷ xs) (s ∷ later) from h = (
  here (from_column is first x h.0),
  in_sets is sets are (first + 1) xs later
      (λ index in_index k below. subst (λ n. In (get_or index n (pos 0)) (get_or later k [])) (omega arith) (from index in_index (suc k) (omega (arith, below)))) h.1,
)
  where
    here : (index : List ℤ) × In index is × (get_or index first (pos 0) ≡ x) → In x s
    here found = subst (λ z. In z s) (ap (λ n. get_or found.0 n (pos 0)) (omega arith) ∙ found.2) (from found.0 (are found.0 found.1) 0 (omega arith))

-- each number of an index stands in the set at its place
pub at_places : (index : List ℤ) (sets : List (List ℤ)) → AreIn index sets → (k : ℕ) → k < length sets → In (get_or index k (pos 0)) (get_or sets k [])
at_places [] [] are k below = absurd (omega (arith, below))
at_places [] (s ∷ sets) are k below = absurd are
at_places (x ∷ xs) [] are k below = absurd are
at_places (x ∷ xs) (s ∷ sets) are zero below = are.0
at_places (x ∷ xs) (s ∷ sets) are (suc k) below = at_places xs sets are.1 k (omega (arith, below))

pub long : (index : List ℤ) (sets : List (List ℤ)) → AreIn index sets → length index ≡ length sets
long [] [] are = refl
long [] (s ∷ sets) are = absurd are
long (x ∷ xs) [] are = absurd are
long (x ∷ xs) (s ∷ sets) are = ap suc (long xs sets are.1)

-- Elements.

-- the item that is found stands at an index of the elements
found_in : (es : List Entry) (index : List ℤ) (item : Item) → item_in es index ≡ Some item → In index (map (λ (e : Entry). e.index) es)
found_in [] index item h = absurd (cc)
found_in (e ∷ es) index item h = by_first (same_index e.index index) refl h (found_in es index item)
  where
    by_first : (b : Bool) → same_index e.index index ≡ b → (if b then Some e.item else item_in es index) ≡ Some item
        → (item_in es index ≡ Some item → In index (map (λ (e : Entry). e.index) es)) → In index (map (λ (e : Entry). e.index) (e ∷ es))
    by_first true is g later = inl (same_index_is e.index index is)
    by_first false is g later = inr (later g)

-- what is found among all indices with what stands there
found_among : (f : List ℤ → Item) (is : List (List ℤ)) (index : List ℤ) → item_in (paired is (map f is)) index ≡ (if is_listed is index then Some (f index) else None)
found_among f [] index = refl
found_among f (i ∷ is) index = by_first (same_index i index) refl (found_among f is index)
  where
    by_first : (b : Bool) → same_index i index ≡ b → item_in (paired is (map f is)) index ≡ (if is_listed is index then Some (f index) else None)
        → (if b then Some (f i) else item_in (paired is (map f is)) index) ≡ (if b || is_listed is index then Some (f index) else None)
    by_first true e later = ap (λ j. Some (f j)) (same_index_is i index e)
    by_first false e later = later

-- the elements have all indices of the sets, and no others
pub record AreFull (sets : List (List ℤ)) (es : List Entry) : Type 0 where
  pub there : (index : List ℤ) → In index (indices sets) → (item : Item) × (item_in es index ≡ Some item)
  pub only : (index : List ℤ) → In index (map (λ (e : Entry). e.index) es) → In index (indices sets)

pub full_array : (sets : List (List ℤ)) (es : List Entry) → AreFull sets es → IsArray es
full_array sets [] full index = refl
full_array sets (e ∷ es) full index =
    found_among (λ i. unwrap_or (item_in (e ∷ es) i) (Fixed (pos 0))) (indices own) index ∙ by_test (is_listed (indices own) index) refl (item_in (e ∷ es) index) refl
  where
    is : List (List ℤ)
    is = map (λ (e : Entry). e.index) (e ∷ es)

    own : List (List ℤ)
    own = sets_of is

    are : (other : List ℤ) → In other is → AreIn other sets
    are other h = from_indices other sets (full.only other h)

    size : length e.index ≡ length sets
    size = long e.index sets (are e.index (inl refl))

    own_is : own ≡ columns is 0 (length sets)
    own_is = ap (columns is 0) size

    inside : In index (indices own) → In index (indices sets)
    inside h =
        in_indices index sets
        (in_sets is sets are 0 index sets (λ other in_other k below. subst (λ n. In (get_or other n (pos 0)) (get_or sets k [])) (omega arith) (at_places other sets in_other k below))
        (subst (AreIn index) own_is (from_indices index own h)))

    outside : In index is → In index (indices own)
    outside h =
        in_indices index own
        (subst (AreIn index) (ap (columns is 0) (long index sets (are index h)) ∙ sym own_is)
        (in_columns is index h 0 index (λ k below. ap (λ n. get_or index n (pos 0)) (omega arith))))

    by_item : (o : Option Item) → ((item : Item) × (o ≡ Some item)) → Some (unwrap_or o (Fixed (pos 0))) ≡ o
    by_item None found = absurd (cc)
    by_item (Some item) found = refl

    by_test : (b : Bool) → is_listed (indices own) index ≡ b → (o : Option Item) → item_in (e ∷ es) index ≡ o
        → (if b then Some (unwrap_or (item_in (e ∷ es) index) (Fixed (pos 0))) else None) ≡ item_in (e ∷ es) index
    by_test true is_there o found = by_item (item_in (e ∷ es) index) (full.there index (inside (from_listed (indices own) index is_there)))
    by_test false is_there None found = sym found
    by_test false is_there (Some item) found = absurd (impossible (sym (listed (indices own) index (outside (found_in (e ∷ es) index item found))) ∙ is_there))
