-- What taking and giving does to all open nodes.
use Rattle.std.specs.Prelude.{◌≡◌, ℕ, List, ◌∷◌, ◌++◌}
use Rattle.open_nodes.specs.declared.seats.OpenNode.{OpenNode}
use Rattle.open_nodes.specs.Takes.{Gives, Takes, all_nodes}

-- of all open nodes this one is gone
pub record IsOut (old new : List OpenNode) (x : OpenNode) : Type 0 where
  pub front : List OpenNode
  pub back : List OpenNode
  pub before : old ≡ front ++ x ∷ back
  pub after : new ≡ front ++ back

-- two nodes have come in side by side
pub record AreIn (old new : List OpenNode) (x y : OpenNode) : Type 0 where
  pub left : List OpenNode
  pub right : List OpenNode
  pub before : old ≡ left ++ right
  pub after : new ≡ left ++ x ∷ y ∷ right

abbrev pub TakesAreEven : Type 0
TakesAreEven = (old new : List (List OpenNode)) (seat : ℕ) (x : OpenNode) → Takes old new seat x → IsOut (all_nodes old) (all_nodes new) x

abbrev pub GivesAreEven : Type 0
GivesAreEven = (old new : List (List OpenNode)) (seat : ℕ) (x y : OpenNode) → Gives old new seat x y → AreIn (all_nodes old) (all_nodes new) x y
