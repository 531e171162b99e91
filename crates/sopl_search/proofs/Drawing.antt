-- Draws of seats.
use Rattle.std.proofs.Common.{◌≡◌, ℕ, suc, ◌+◌, ◌%◌, Option, None, Some, sym, ap, subst, ◌∙◌, arith, unwrap_or}
use Rattle.sopl_search.specs.Schedules.{drawn_below, named_seat, next_draw, schedule_state}

-- at first the state is the order, or 0
pub state_first : (order : Option ℕ) (state : ℕ) → state ≡ unwrap_or order 0 → state ≡ schedule_state order 0
unfolding schedule_state
state_first None state is = is
state_first (Some order) state is = is

-- a draw more
behind : (order turn state now : ℕ) → state ≡ schedule_state (Some order) turn → now ≡ next_draw state → now ≡ schedule_state (Some order) (suc turn)
unfolding schedule_state
behind order turn state now is drawn = drawn ∙ ap next_draw is

pub state_on : (order : Option ℕ) (n turn state now : ℕ) → order ≡ Some n → state ≡ schedule_state order turn → now ≡ next_draw state → now ≡ schedule_state order (turn + 1)
state_on order n turn state now some is drawn =
    subst (λ (o : Option ℕ). now ≡ schedule_state o (turn + 1)) (sym some)
    (subst (λ (t : ℕ). now ≡ schedule_state (Some n) t) (omega arith)
    (behind n turn state now (subst (λ (o : Option ℕ). state ≡ schedule_state o turn) some is) drawn))

none_behind : (turn state : ℕ) → state ≡ schedule_state None turn → state ≡ schedule_state None (turn + 1)
unfolding schedule_state
none_behind turn state is = is

pub state_stays : (order : Option ℕ) (turn state : ℕ) → order ≡ None → state ≡ schedule_state order turn → state ≡ schedule_state order (turn + 1)
state_stays order turn state none is =
    subst (λ (o : Option ℕ). state ≡ schedule_state o (turn + 1)) (sym none) (none_behind turn state (subst (λ (o : Option ℕ). state ≡ schedule_state o turn) none is))

-- the seat that is named
drawn_seat : (seats order turn state now seat : ℕ) → state ≡ schedule_state (Some order) turn → now ≡ next_draw state → seat ≡ drawn_below seats now → seat ≡ named_seat seats (Some order) turn
unfolding schedule_state named_seat
drawn_seat seats order turn state now seat is drawn named = named ∙ ap (drawn_below seats) (drawn ∙ ap next_draw is)

pub seat_by_draw : (seats : ℕ) (order : Option ℕ) (n turn state now seat : ℕ) → order ≡ Some n → state ≡ schedule_state order turn → now ≡ next_draw state → seat ≡ drawn_below seats now
    → seat ≡ named_seat seats order turn
seat_by_draw seats order n turn state now seat some is drawn named =
    subst (λ (o : Option ℕ). seat ≡ named_seat seats o turn) (sym some)
    (drawn_seat seats n turn state now seat (subst (λ (o : Option ℕ). state ≡ schedule_state o turn) some is) drawn named)

pub seat_by_turn : (seats turn seat : ℕ) → seat ≡ turn % seats → seat ≡ named_seat seats None turn
unfolding named_seat
seat_by_turn seats turn seat is = is

pub seat_in_turn : (seats : ℕ) (order : Option ℕ) (turn seat : ℕ) → order ≡ None → seat ≡ named_seat seats None turn → seat ≡ named_seat seats order turn
seat_in_turn seats order turn seat none is = is ∙ sym (ap (λ (o : Option ℕ). named_seat seats o turn) none)
