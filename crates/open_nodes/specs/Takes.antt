-- Which node a seat takes, and where it gives two.
use Rattle.std.specs.Prelude.{◌≡◌, ◌⊎◌, ℕ, ◌<◌, List, [], ◌∷◌, ◌++◌, length, map, slice_index_or, slice_set}
use Rattle.open_nodes.specs.declared.seats.OpenNode.{OpenNode}
use Rattle.open_nodes.specs.declared.seats.Seat.{Seat}
use Rattle.open_nodes.specs.declared.seats.Seats.{Seats}

abbrev pub lists_of : Seats → List (List OpenNode)
lists_of seats = map (λ (seat : Seat). seat.nodes.items) seats.seats.items

-- the members of all lists, one list after the other: the nodes of the seats, and what else stands in their lists
abbrev pub all_nodes : {A : Type 0} → List (List A) → List A
all_nodes [] = []
all_nodes (xs ∷ lists) = xs ++ all_nodes lists

abbrev pub seat_nodes : {A : Type 0} → List (List A) → ℕ → List A
seat_nodes lists seat = slice_index_or lists seat []

-- the newest one of a seat
pub record TakesOwn {A : Type 0} (old new : List (List A)) (seat : ℕ) (x : A) : Type 0 where
  pub others : List A
  pub exists : seat < length old
  pub before : seat_nodes old seat ≡ others ++ x ∷ []
  pub after : new ≡ slice_set old seat others

-- the oldest one of the first seat that has one
pub record Steals {A : Type 0} (old new : List (List A)) (x : A) : Type 0 where
  pub from : ℕ
  pub others : List A
  pub exists : from < length old
  pub first : (seat : ℕ) → seat < from → seat_nodes old seat ≡ []
  pub before : seat_nodes old from ≡ x ∷ others
  pub after : new ≡ slice_set old from others

abbrev pub Takes : {A : Type 0} → List (List A) → List (List A) → ℕ → A → Type 0
Takes old new seat x = TakesOwn old new seat x ⊎ ((seat_nodes old seat ≡ []) × Steals old new x)

-- two nodes become the newest ones of a seat
pub record Gives {A : Type 0} (old new : List (List A)) (seat : ℕ) (x y : A) : Type 0 where
  pub exists : seat < length old
  pub after : new ≡ slice_set old seat (seat_nodes old seat ++ x ∷ y ∷ [])
