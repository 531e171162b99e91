-- Whether a reason closes a box or parts of it.
use Rattle.std.specs.Prelude.{◌≡◌, ◌⊎◌, ℕ, ◌<◌, pos, ℤ, ◌≤ℤ◌, ◌-ℤ◌, Bool, true, List, length, Contains, IfSome}
use Rattle.sopl_base.specs.declared.reason.Reason.TheVariants.{Bound, Chance}
use Rattle.box_problem.specs.Box.{Box, Inside, high, low}
use Rattle.prop_shave.specs.ChanceKnown.{IsWeighed}
use Rattle.prop_shave.specs.declared.chance_delta.ChanceDelta.{ChanceDelta}
use Rattle.prop_shave.specs.GoalKnown.{IsCounted}
use Rattle.prop_shave.specs.declared.goal_delta.GoalDelta.{GoalDelta}
use Rattle.term_problem.specs.Refuted.{refutes}
use Rattle.term_program.specs.Programs.{IsMade, problem_in, root_in, with_interval}
use Rattle.prop_shave.specs.declared.shave_steps.CellEnd.{CellEnd}
use Rattle.prop_shave.specs.declared.shave_steps.Shave.{Shave}
use Rattle.prop_shave.specs.declared.probes.Probe.{Probe}
use Rattle.prop_shave.specs.Ends.{IsWide, highest, lowest}

-- each of these cells is one of those
abbrev pub HasAll : List ℕ → List ℕ → Type 0
HasAll those these = (cell : ℕ) → Contains these cell → Contains those cell

-- each cell of the first list is one of the second or of the third
abbrev pub HasOnly : List ℕ → List ℕ → List ℕ → Type 0
HasOnly these old more = (cell : ℕ) → Contains these cell → Contains old cell ⊎ Contains more cell

-- the weight is that of the reason's constraint over the box of the store
pub record IsWeighedOf (q : Probe) (w : ChanceDelta) : Type 0 where
  pub reason : q.reason ≡ Chance w.instance
  pub known : IsWeighed (root_in q.program.now) (problem_in q.program.now) q.store.now.box w

-- the better end is that of the objective over the box of the store, for the bound
pub record IsCountedOf (q : Probe) (c : GoalDelta) : Type 0 where
  pub reason : q.reason ≡ Bound
  pub known : IsCounted q.program.now q.store.now.box c

-- the box of the store is a part of the program's root, and what is at hand is right
pub record IsAsked (q : Probe) : Type 0 where
  pub made : IsMade q.program.now
  pub inside : Inside q.store.now.box (root_in q.program.now)
  pub weighed : IfSome q.weighed (IsWeighedOf q)
  pub counted : IfSome q.counted (IsCountedOf q)

-- whether the reason closes a box
abbrev pub closes : Probe → Box → Bool
closes q b = refutes (root_in q.program.now) (problem_in q.program.now) q.reason b q.best

-- the end of the interval of a cell that has more than one value
pub record IsEndOf (q : Probe) (end : CellEnd) : Type 0 where
  pub exists : end.cell < length q.store.now.box.lows
  pub low : end.lo ≡ low q.store.now.box end.cell
  pub high : end.hi ≡ high q.store.now.box end.cell
  pub wide : IsWide end

-- whether the part is closed in which the cell has one of so many values at the end
abbrev pub closes_part : Probe → CellEnd → ℤ → Bool
closes_part q end count =
    closes q (with_interval q.store.now.box end.cell (lowest end count) (highest end count))

-- so many values at the end may be removed
pub record IsRemoval (q : Probe) (end : CellEnd) (removal : Shave) : Type 0 where
  pub some : pos 1 ≤ℤ removal.count
  pub fewer : removal.count ≤ℤ (end.hi -ℤ end.lo)
  pub closed : closes_part q end removal.count ≡ true
  pub more : pos 1 ≤ℤ removal.by
