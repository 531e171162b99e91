-- Data as a policy's text has it: lists, whole numbers and texts, and two of them that are alike.
use Rattle.std.specs.Prelude.{ℕ, ℤ, ◌&&◌, Bool, true, false, List, [], ◌∷◌, ◌++◌, Option, None, option_map, if◌then◌else◌, int_le}
use Rattle.std.specs.Option.{option_and_then, option_map_or}
use Rattle.std.specs.Str.{bytes_eq, is_utf8}
use Rattle.serde_json.specs.Data.{Data, Items, no_items, item}
use Rattle.serde_json.specs.Find.{as_number, as_i64, as_str, as_array, get}
use Rattle.serde_json.specs.Read.{read}

-- the data of a text, if it has a reading: a text that is no UTF-8 has none
abbrev pub data_in : List ℕ → Option Data
data_in text = if is_utf8 text then read text else None

-- the items of a list
abbrev pub items_list : Items → List Data
items_list no_items = []
items_list (item d ds) = d ∷ items_list ds

-- the list that data is
abbrev pub list_in : Data → Option (List Data)
list_in d = option_map items_list (as_array d)

-- the list that stands at a key
abbrev pub list_under : List ℕ → Data → Option (List Data)
list_under key d = option_and_then list_in (get key d)

-- the whole number that data is, within 64 signed bits
abbrev pub whole_in : Data → Option ℤ
whole_in d = option_and_then as_i64 (as_number d)

-- two lists are of one length, and their items are alike, one by one
abbrev pub alike : (Data → Data → Bool) → List Data → List Data → Bool
alike test [] [] = true
alike test [] (d ∷ ds) = false
alike test (f ∷ fs) [] = false
alike test (f ∷ fs) (d ∷ ds) = test f d && alike test fs ds

-- both are lists, and alike
abbrev pub lists_alike : (Data → Data → Bool) → Option (List Data) → Option (List Data) → Bool
lists_alike test fs ds = option_map_or (λ xs. option_map_or (alike test xs) ds false) fs false

-- two whole numbers are one
abbrev pub int_is : ℤ → ℤ → Bool
int_is a b = int_le a b && int_le b a

-- both are whole numbers, and one
abbrev pub same_whole : Data → Data → Bool
same_whole f d = option_map_or (λ a. option_map_or (int_is a) (whole_in d) false) (whole_in f) false

-- both are texts, and one
abbrev pub same_text : Data → Data → Bool
same_text f d = option_map_or (λ a. option_map_or (bytes_eq a) (as_str d) false) (as_str f) false

-- what comes of the items of two lists, one by one, as far as both go
abbrev pub pairwise : {A : Type 0} → (Data → Data → List A) → List Data → List Data → List A
pairwise make [] ds = []
pairwise make (f ∷ fs) [] = []
pairwise make (f ∷ fs) (d ∷ ds) = make f d ++ pairwise make fs ds
