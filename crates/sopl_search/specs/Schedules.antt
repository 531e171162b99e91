-- Which seat is given each step.
use Rattle.std.specs.Prelude.{◌≡◌, ℕ, zero, suc, ◌+◌, ◌*◌, ◌≤◌, ◌/◌, ◌%◌, ◌^◌, Bool, true, nat_lt, Option, None, Some, List, map}
use Rattle.std.specs.List.{range_with_len}

-- the state behind a draw, and what a draw below n gives by it
abbrev pub next_draw : ℕ → ℕ
next_draw state = (state * 1103515245 + 12345) % 2147483648

abbrev pub drawn_below : ℕ → ℕ → ℕ
drawn_below n state = (state / 65536) % n

-- the state behind so many draws from an order; without one it is 0
abbrev pub state_behind : ℕ → ℕ → ℕ
state_behind order zero = order
state_behind order (suc turn) = next_draw (state_behind order turn)

unfoldable pub schedule_state : Option ℕ → ℕ → ℕ
schedule_state None turn = 0
schedule_state (Some order) turn = state_behind order turn

-- the seat of a step: in turn, or as is drawn
unfoldable pub named_seat : ℕ → Option ℕ → ℕ → ℕ
named_seat seats None turn = turn % seats
named_seat seats (Some order) turn = drawn_below seats (state_behind order (suc turn))

-- the seats of the first steps
abbrev pub named_seats : ℕ → Option ℕ → ℕ → List ℕ
named_seats seats order turns = map (named_seat seats order) (range_with_len 0 turns)

-- there are 1 to 64 seats, and an order is below 2^31
abbrev pub AreSeats : ℕ → Type 0
AreSeats seats = (1 ≤ seats) × (seats ≤ 64)

abbrev pub is_order : Option ℕ → Bool
is_order None = true
is_order (Some order) = nat_lt order (2 ^ 31)

abbrev pub IsOrder : Option ℕ → Type 0
IsOrder order = is_order order ≡ true
