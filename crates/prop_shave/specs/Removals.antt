-- When values at an end of a cell's interval may be removed, whatever closes a box.
use Rattle.std.specs.Prelude.{◌≡◌, ℕ, ◌<◌, Bool, true, false, length}
use Rattle.sopl_base.specs.declared.reason.Step.{Step}
use Rattle.box_problem.specs.Box.{Box, high, low, with_high, with_low}
use Rattle.box_problem.specs.Steps.{IsCut, removed}

-- the box is not closed with a cell at either end, if the cell exists
pub record IsOpenAt (closes : Box → Bool) (b : Box) (cell : ℕ) : Type 0 where
  pub at_low : cell < length b.lows → closes (with_high b cell (low b cell)) ≡ false
  pub at_high : cell < length b.lows → closes (with_low b cell (high b cell)) ≡ false

-- a step cuts a cell's interval, and the part that it removes is closed
pub record Removes (closes : Box → Bool) (b : Box) (s : Step) : Type 0 where
  pub cut : IsCut b s.cell s.side s.k
  pub closed : closes (removed b s) ≡ true
