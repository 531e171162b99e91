-- Cuts of one cell's interval, and steps.
use Rattle.std.specs.Prelude.{ℕ, ◌<◌, ℤ, pos, ◌+ℤ◌, ◌-ℤ◌, ◌≤ℤ◌, ◌<ℤ◌, List, [], ◌∷◌, length}
use Rattle.sopl_base.specs.declared.reason.Side.{Side}
use Rattle.sopl_base.specs.declared.reason.Side.TheVariants.{Le, Ge}
use Rattle.sopl_base.specs.declared.reason.Step.{Step}
use Rattle.box_problem.specs.Box.{Box, low, high, with_low, with_high}

-- the part in which the cell is at most k, or at least k
abbrev pub narrowed : Box → ℕ → Side → ℤ → Box
narrowed b cell Le k = with_high b cell k
narrowed b cell Ge k = with_low b cell k

-- the other part: the cell is above k, or below k
abbrev pub cut_away : Box → ℕ → Side → ℤ → Box
cut_away b cell Le k = with_low b cell (k +ℤ pos 1)
cut_away b cell Ge k = with_high b cell (k -ℤ pos 1)

-- k cuts the interval from lo to hi into two parts that are not empty
abbrev pub CutsBetween : Side → ℤ → ℤ → ℤ → Type 0
CutsBetween Le lo k hi = (lo ≤ℤ k) × (k <ℤ hi)
CutsBetween Ge lo k hi = (lo <ℤ k) × (k ≤ℤ hi)

-- the cell exists, and k cuts its interval
pub record IsCut (b : Box) (cell : ℕ) (side : Side) (k : ℤ) : Type 0 where
  pub exists : cell < length b.lows
  pub between : CutsBetween side (low b cell) k (high b cell)

-- the part that a step keeps, and the part that it removes
abbrev pub after_step : Box → Step → Box
after_step b s = narrowed b s.cell s.side s.k

abbrev pub removed : Box → Step → Box
removed b s = cut_away b s.cell s.side s.k

-- the box that is left behind steps, one after another
abbrev pub after_steps : Box → List Step → Box
after_steps b [] = b
after_steps b (s ∷ steps) = after_steps (after_step b s) steps
