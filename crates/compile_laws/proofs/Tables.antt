-- The sets and the items of the arrays of elements.
use Rattle.std.proofs.Common.{◌≡◌, ◌∙◌, refl, sym, ap, subst, arith, ℕ, zero, suc, ◌+◌, ◌<◌, ℤ, pos, List, [], ◌∷◌, length, map, get_or, drop, inl, inr, slice_index_or}
use Rattle.std.proofs.lemmas.List.Kept.{AllPairs-cons}
use Rattle.std.proofs.lemmas.List.{length-map}
use Rattle.std.specs.List.{AllByRecursion, AllPairs, flat_map}
use Rattle.std.specs.Option.{unwrap_or}
use Rattle.policy_tree.proofs.Members.{In, In-Contains, Contains-In, from_map, from_flat_map}
use Rattle.policy_tree.proofs.Once.{Once, Once-map, Once-append}
use Rattle.term_language.specs.Terms.{Fixed}
use Rattle.term_language.specs.Arrays.{Entry, indices, item_in}
use Rattle.compile_laws.specs.Instances.{sets_of, table_over}
use Rattle.compile_laws.specs.Tables.{TablesAreSound, TablesHaveSets}
use Rattle.lang_laws.specs.Laws.{Ascends}
use Rattle.compile_laws.proofs.Arrays.{AreIn, in_indices, from_indices, column, columns, in_column, from_column, at_places, long}
use Rattle.compile_laws.proofs.Ascending.{above, later_ascends, not_less, same_numbers}
use Rattle.lang_laws.proofs.Ascending.{all_inserted}

abbrev index_in : Entry → List ℤ
index_in e = e.index

-- Sets.

column_ascends : (is : List (List ℤ)) (place : ℕ) → Ascends (column is place)
column_ascends is place = all_inserted (map (λ index. get_or index place (pos 0)) is) [] tt

columns_ascend : (is : List (List ℤ)) (first n : ℕ) → AllByRecursion Ascends (columns is first n)
columns_ascend is first zero = tt
columns_ascend is first (suc n) = (column_ascends is first, columns_ascend is (first + 1) n)

sets_ascend : (is : List (List ℤ)) → AllByRecursion Ascends (sets_of is)
sets_ascend [] = (tt, tt)
sets_ascend (index ∷ is) = columns_ascend (index ∷ is) 0 (length index)

-- Indices, each once.

-- no number that ascends stands again
once_ascending : (xs : List ℤ) → Ascends xs → Once xs
once_ascending [] up = tt
once_ascending (x ∷ xs) up = (λ again. not_less x (above x xs up x again), once_ascending xs (later_ascends x xs up))

head_is : (x y : ℤ) (xs ys : List ℤ) → x ∷ xs ≡ y ∷ ys → x ≡ y
head_is x y xs ys same = ap (λ index. get_or index 0 x) same

tail_is : (x : ℤ) (xs ys : List ℤ) → x ∷ xs ≡ x ∷ ys → xs ≡ ys
tail_is x xs ys same = ap (λ index. drop 1 index) same

abbrev blocks : List (List ℤ) → List ℤ → List (List ℤ)
blocks rest set = flat_map (λ number. map (λ later. number ∷ later) rest) set

once_blocks : (rest : List (List ℤ)) → Once rest → (set : List ℤ) → Once set → Once (blocks rest set)
once_blocks rest once [] apart = tt
once_blocks rest once (number ∷ set) apart =
    Once-append (map (λ later. number ∷ later) rest) (blocks rest set) (Once-map (λ later. number ∷ later) rest (tail_is number) once)
    (once_blocks rest once set apart.1)
    (λ index here there.
    let first = from_map (λ later. number ∷ later) rest index here in
    let other = from_flat_map (λ n. map (λ later. n ∷ later) rest) set index there in
    let second = from_map (λ later. other.0 ∷ later) rest index other.2 in
    apart.0 (subst (λ n. In n set) (head_is other.0 number second.0 first.0 (second.2 ∙ sym first.2)) other.1))

once_indices : (sets : List (List ℤ)) → AllByRecursion Ascends sets → Once (indices sets)
once_indices [] up = (λ again. again, tt)
once_indices (set ∷ sets) up = once_blocks (indices sets) (once_indices sets up.1) set (once_ascending set up.0)

stands_in : {A : Type 0} (xs : List A) (k : ℕ) (d : A) → k < length xs → In (slice_index_or xs k d) xs
stands_in [] k d below = absurd (omega (arith, below))
stands_in (x ∷ xs) zero d below = inl refl
stands_in (x ∷ xs) (suc k) d below = inr (stands_in xs k d (omega (arith, below)))

all_apart : (xs : List (List ℤ)) → Once xs → AllPairs (λ p q. ¬ p ≡ q) xs
all_apart [] once = λ i j d before below same. absurd (omega (arith, below))
all_apart (x ∷ xs) once =
    AllPairs-cons (λ p q. ¬ p ≡ q) x xs (λ k d below same. once.0 (subst (λ y. In y xs) (sym same) (stands_in xs k d below))) (all_apart xs once.1)

pub tables_are_sound : TablesAreSound
tables_are_sound entries = (
  sets_ascend (map index_in entries),
  record {
    complete = length-map (indices (sets_of (map index_in entries))) (λ index. unwrap_or (item_in entries index) (Fixed (pos 0)));
    distinct = all_apart (indices (sets_of (map index_in entries))) (once_indices (sets_of (map index_in entries)) (sets_ascend (map index_in entries)));
  },
)

-- Sets that are given.

-- an index with another number at one place
replaced : (index : List ℤ) (sets : List (List ℤ)) → AreIn index sets → (k : ℕ) → k < length sets → (z : ℤ) → In z (get_or sets k [])
    → (other : List ℤ) × AreIn other sets × (get_or other k (pos 0) ≡ z)
replaced [] [] are k below z h = absurd (omega (arith, below))
replaced [] (s ∷ sets) are k below z h = absurd are
replaced (x ∷ xs) [] are k below z h = absurd are
replaced (x ∷ xs) (s ∷ sets) are zero below z h = (z ∷ xs, (h, are.1), refl)
replaced (x ∷ xs) (s ∷ sets) are (suc k) below z h =
    let later = replaced xs sets are.1 k (omega (arith, below)) z h in
    (x ∷ later.0, (are.0, later.1), later.2)

set_ascends : (sets : List (List ℤ)) → AllByRecursion Ascends sets → (k : ℕ) → k < length sets → Ascends (get_or sets k [])
set_ascends [] up k below = absurd (omega (arith, below))
set_ascends (s ∷ sets) up zero below = up.0
set_ascends (s ∷ sets) up (suc k) below = set_ascends sets up.1 k (omega (arith, below))

-- columns that are these sets
all_columns : (is : List (List ℤ)) (first : ℕ) (sets : List (List ℤ)) → ((k : ℕ) → k < length sets → column is (first + k) ≡ get_or sets k []) → columns is first (length sets) ≡ sets
all_columns is first [] each = refl
all_columns is first (s ∷ sets) each = λ i. here i ∷ all_columns is (first + 1) sets later i
  where
    here : column is first ≡ s
    here = let same : first ≡ first + 0 = omega arith in ap (column is) same ∙ each 0 (omega arith)

    later : (k : ℕ) → k < length sets → column is (first + 1 + k) ≡ get_or sets k []
    later k below = let same : first + 1 + k ≡ first + suc k = omega arith in ap (column is) same ∙ each (suc k) (omega (arith, below))

module _ (sets : List (List ℤ)) (index : List ℤ) (is : List (List ℤ)) (up : AllByRecursion Ascends sets)
    (to : (other : List ℤ) → In other (indices sets) → In other (index ∷ is)) (back : (other : List ℤ) → In other (index ∷ is) → In other (indices sets)) where
  are_in : (other : List ℤ) → In other (index ∷ is) → AreIn other sets
  are_in other h = from_indices other sets (back other h)

  column_to : (k : ℕ) → k < length sets → (z : ℤ) → In z (column (index ∷ is) k) → In z (get_or sets k [])
  column_to k below z h =
      let found = from_column (index ∷ is) k z h in
      subst (λ w. In w (get_or sets k [])) found.2 (at_places found.0 sets (are_in found.0 found.1) k below)

  column_back : (k : ℕ) → k < length sets → (z : ℤ) → In z (get_or sets k []) → In z (column (index ∷ is) k)
  column_back k below z h =
      let other = replaced index sets (are_in index (inl refl)) k below z h in
      subst (λ w. In w (column (index ∷ is) k)) other.2 (in_column (index ∷ is) other.0 k (to other.0 (in_indices other.0 sets other.1)))

  column_is : (k : ℕ) → k < length sets → column (index ∷ is) (0 + k) ≡ get_or sets k []
  column_is k below =
      let same : 0 + k ≡ k = omega arith in
      ap (column (index ∷ is)) same
      ∙ same_numbers (column (index ∷ is) k) (get_or sets k []) (column_ascends (index ∷ is) k) (set_ascends sets up k below) (column_to k below) (column_back k below)

  given_sets : sets_of (index ∷ is) ≡ sets
  given_sets = ap (columns (index ∷ is) 0) (long index sets (are_in index (inl refl))) ∙ all_columns (index ∷ is) 0 sets column_is

pub tables_have_sets : TablesHaveSets
tables_have_sets sets first later up have =
    ap (table_over (first ∷ later))
    (given_sets sets first.index (map index_in later) up
    (λ other h. In-Contains (map index_in (first ∷ later)) other ((have other).0 (Contains-In (indices sets) other h)))
    (λ other h. In-Contains (indices sets) other ((have other).1 (Contains-In (map index_in (first ∷ later)) other h))))
