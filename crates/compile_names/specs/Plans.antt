-- The sets of an array by the indices of its elements, and which element stands at each index.
use Rattle.std.specs.Prelude.{ℕ, ◌+◌, ℤ, pos, ◌≡◌, List, [], ◌∷◌, map, Option, Some, None, option_and_then, slice_get, if◌then◌else◌}
use Rattle.std.specs.Option.{unwrap_or}
use Rattle.term_language.specs.Terms.{Item, Table, Fixed}
use Rattle.term_language.specs.Arrays.{Entry, indices, same_index}
use Rattle.compile_laws.specs.Instances.{sets_of, table_of}

-- which of these indices is the first that is the same as a given one; so many stand before them
abbrev pub place_among : ℕ → List (List ℤ) → List ℤ → Option ℕ
place_among before [] index = None
place_among before (first ∷ later) index = if same_index first index then Some before else place_among (before + 1) later index

-- for each index of an array, in lexicographic order, which of the indices of its elements is the first that is the same
abbrev pub order_of : List (List ℤ) → List (Option ℕ)
order_of given = map (place_among 0 given) (indices (sets_of given))

-- the item of this number, or 0 where there is none
abbrev pub picked : List Item → Option ℕ → Item
picked items place = unwrap_or (option_and_then (slice_get items) place) (Fixed (pos 0))

-- the table that has these items at these indices
abbrev pub planned : List (List ℤ) → List Item → Table
planned given items = record { sets = sets_of given; items = map (picked items) (order_of given) }

-- the table of elements is that of their indices and their items
abbrev pub TablesArePlanned : Type 0
TablesArePlanned = (entries : List Entry) → table_of entries ≡ planned (map (λ (e : Entry). e.index) entries) (map (λ (e : Entry). e.item) entries)
