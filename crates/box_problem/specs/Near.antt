-- Boxes whose ends lie within 2^40.
use Rattle.std.specs.Prelude.{◌^◌, ℕ, ◌<◌, ℤ, pos, neg_ℤ, ◌≤ℤ◌, length}
use Rattle.box_problem.specs.Box.{Box, low, high}

-- a number within 2^40, and a box all of whose ends are such
pub record IsNear (k : ℤ) : Type 0 where
  pub above : neg_ℤ (pos (2 ^ 40)) ≤ℤ k
  pub below : k ≤ℤ pos (2 ^ 40)

pub record IsNearBox (b : Box) : Type 0 where
  pub lows : (cell : ℕ) → cell < length b.lows → IsNear (low b cell)
  pub highs : (cell : ℕ) → cell < length b.lows → IsNear (high b cell)
