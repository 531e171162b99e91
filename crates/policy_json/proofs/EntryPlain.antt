-- No float stands in an entry.
use Rattle.std.proofs.Common.{◌≡◌, ℕ, ℤ, pos, negsuc, List, [], ◌∷◌, map, false, refl}
use Rattle.std.proofs.lemmas.Bool.{or_from}
use Rattle.serde_json.specs.Data.{Data}
use Rattle.serde_json.specs.View.{items_of}
use Rattle.serde_json.specs.Written.{has_float, items_have_float}
use Rattle.policy_json.specs.Entries.{entry_of, whole_number}

-- a whole number is no float
pub number_plain : (z : ℤ) → has_float (whole_number z) ≡ false
number_plain (pos n) = refl
number_plain (negsuc n) = refl

-- a list of data without floats
pub map_plain : {X : Type 0} (f : X → Data) → ((x : X) → has_float (f x) ≡ false) → (xs : List X) → items_have_float (items_of (map f xs)) ≡ false
map_plain f plain [] = refl
map_plain f plain (x ∷ xs) = or_from _ _ (plain x) (map_plain f plain xs)

-- an entry
pub entry_plain : (name : List ℕ) (index : List ℤ) (value : ℤ) → has_float (entry_of name index value) ≡ false
entry_plain name index value = or_from _ _ (map_plain whole_number number_plain index) (or_from _ _ (number_plain value) refl)
