-- By how much a number that goes by the box turns with a cell at its ends.
use Rattle.std.specs.Prelude.{◌≡◌, ℕ, ℤ, ◌+ℤ◌}
use Rattle.box_problem.specs.Box.{Box, high, low}
use Rattle.term_program.specs.Programs.{with_interval}
use Rattle.prop_shave.specs.declared.end_turns.EndTurns.{EndTurns}
use Rattle.prop_shave.specs.declared.end_turns.EndsTold.{EndsTold}
use Rattle.prop_shave.specs.declared.end_turns.EndsTold.TheVariants.{Open, Turned, Untold}

-- the box with a cell at its low end, and at its high end
abbrev pub at_low : Box → ℕ → Box
at_low b cell = with_interval b cell (low b cell) (low b cell)

abbrev pub at_high : Box → ℕ → Box
at_high b cell = with_interval b cell (high b cell) (high b cell)

-- by these the number turns there
pub record AreEndTurns (number : Box → ℤ) (b : Box) (cell : ℕ) (turns : EndTurns) : Type 0 where
  pub to_low : (number b +ℤ turns.low.value) ≡ number (at_low b cell)
  pub to_high : (number b +ℤ turns.high.value) ≡ number (at_high b cell)

-- what is told of the ends of a cell holds, where this is said where the box stays open with the cell at either
abbrev pub HoldsAtEnds : Type 0 → (Box → ℤ) → Box → ℕ → EndsTold → Type 0
HoldsAtEnds stays number b cell Open = stays
HoldsAtEnds stays number b cell (Turned turns) = AreEndTurns number b cell turns
HoldsAtEnds stays number b cell Untold = Unit {0}
