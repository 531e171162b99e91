-- Draws of a linear congruential generator, and the stages that come from them.
use Rattle.std.specs.Prelude.{ℕ, zero, suc, ◌+◌, ◌*◌, ◌/◌, ◌%◌, List, [], ◌∷◌}
use Rattle.model_gen.specs.declared.drawn_stage.DrawnStage.{DrawnStage}

-- the state after a draw, and what is drawn below n where a draw has left this state
unfoldable pub next_state : ℕ → ℕ
next_state state = (state * 1103515245 + 12345) % 2147483648

unfoldable pub drawn_below : ℕ → ℕ → ℕ
drawn_below n state = (state / 65536) % n

abbrev pub state_after : ℕ → ℕ → ℕ
state_after zero state = state
state_after (suc draws) state = state_after draws (next_state state)

-- five draws make a stage
abbrev pub drawn_stage : ℕ → DrawnStage
drawn_stage state = record {
  price = 4 + drawn_below 5 (state_after 1 state);
  cost = 1 + drawn_below 3 (state_after 2 state);
  low = drawn_below 2 (state_after 3 state);
  high = drawn_below 2 (state_after 3 state) + 1 + drawn_below 2 (state_after 4 state);
  weight = 1 + drawn_below 3 (state_after 5 state);
}

abbrev pub drawn_stages : ℕ → ℕ → List DrawnStage
drawn_stages zero state = []
drawn_stages (suc stages) state = drawn_stage state ∷ drawn_stages stages (state_after 5 state)
