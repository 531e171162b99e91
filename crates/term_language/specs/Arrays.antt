-- The elements of an array, and which of them an index may name.
use Rattle.std.specs.Prelude.{ℕ, zero, suc, ◌+◌, ℤ, pos, ◌+ℤ◌, Bool, true, false, ◌&&◌, List, [], ◌∷◌, map, Option, Some, None, if◌then◌else◌}
use Rattle.std.specs.List.{flat_map, filter, list_all, list_any}
use Rattle.std.specs.Int.{int_gap}
use Rattle.std.specs.Ordering.{int_eq}
use Rattle.term_language.specs.Terms.{Item, Table}
use Rattle.term_language.specs.Ends.{Ends, has}

-- an index of an array, and the item there
pub record Entry : Type 0 where
  pub index : List ℤ
  pub item : Item

-- the indices that sets have, in lexicographic order; no set has the one that is empty
abbrev pub indices : List (List ℤ) → List (List ℤ)
indices [] = [] ∷ []
indices (set ∷ sets) = flat_map (λ number. map (λ later. number ∷ later) (indices sets)) set

-- each index with its item
abbrev pub paired : List (List ℤ) → List Item → List Entry
paired [] items = []
paired (index ∷ later) [] = []
paired (index ∷ later) (item ∷ items) = record { index = index; item = item } ∷ paired later items

abbrev pub entries : Table → List Entry
entries table = paired (indices table.sets) table.items

-- two indices are the same
abbrev pub same_index : List ℤ → List ℤ → Bool
same_index [] [] = true
same_index [] (y ∷ ys) = false
same_index (x ∷ xs) [] = false
same_index (x ∷ xs) (y ∷ ys) = int_eq x y && same_index xs ys

-- the item at an index, if the index is one of the array's
abbrev pub item_in : List Entry → List ℤ → Option Item
item_in [] index = None
item_in (entry ∷ later) index = if same_index entry.index index then Some entry.item else item_in later index

abbrev pub item_at : Table → List ℤ → Option Item
item_at table index = item_in (entries table) index

-- an index lies within intervals, number by number
abbrev pub lies_in : List Ends → List ℤ → Bool
lies_in [] [] = true
lies_in [] (number ∷ index) = false
lies_in (ends ∷ later) [] = false
lies_in (ends ∷ later) (number ∷ index) = has ends number && lies_in later index

-- the elements whose indices lie within these intervals
abbrev pub reached : List Ends → Table → List Entry
reached intervals table = filter (λ (entry : Entry). lies_in intervals entry.index) (entries table)

-- so many numbers, from a given one on
abbrev pub counted_up : ℤ → ℕ → List ℤ
counted_up z zero = []
counted_up z (suc n) = z ∷ counted_up (z +ℤ pos 1) n

-- each number of an interval is in a set
abbrev pub is_covered : Ends → List ℤ → Bool
is_covered ends set = list_all (λ number. list_any (int_eq number) set) (counted_up ends.low (int_gap ends.low ends.high + 1))

-- each index within these intervals is one of the array's
abbrev pub are_covered : List Ends → List (List ℤ) → Bool
are_covered [] [] = true
are_covered [] (set ∷ sets) = false
are_covered (ends ∷ later) [] = false
are_covered (ends ∷ later) (set ∷ sets) = is_covered ends set && are_covered later sets
