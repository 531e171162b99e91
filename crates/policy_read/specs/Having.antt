-- Data that has all that other data has.
use Rattle.std.specs.Prelude.{◌≡◌, ℤ, List, [], ◌∷◌, Option, Some}
use Rattle.serde_json.specs.Data.{Data, null, boolean, number, string, array, object, Items, no_items, item, Members, no_members, member}
use Rattle.serde_json.specs.Find.{as_i64, as_str, get}
use Rattle.policy_read.specs.Listed.{list_in, whole_in}

-- The second data has what the first one has: for each member one of the same key that has what this one has, for each list a list of as many items of which each
-- has what the item in its place has, the same text, and the same whole number. Its members may stand in any order, and there may be more of them.
abbrev mutual
  pub Has : Data → Data → Type 0
  Has null d = d ≡ null
  Has (boolean b) d = d ≡ boolean b
  Has (number n) d = (z : ℤ) × (as_i64 n ≡ Some z) × (whole_in d ≡ Some z)
  Has (string s) d = as_str d ≡ Some s
  Has (array fs) d = (ds : List Data) × (list_in d ≡ Some ds) × HasItems fs ds
  Has (object ms) d = HasMembers ms d

  pub HasItems : Items → List Data → Type 0
  HasItems no_items [] = Unit {0}
  HasItems no_items (d ∷ ds) = ⊥
  HasItems (item f fs) [] = ⊥
  HasItems (item f fs) (d ∷ ds) = Has f d × HasItems fs ds

  pub HasMembers : Members → Data → Type 0
  HasMembers no_members d = Unit {0}
  HasMembers (member k f ms) d = ((e : Data) × (get k d ≡ Some e) × Has f e) × HasMembers ms d
