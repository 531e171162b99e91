-- The values at an end of an interval.
use Rattle.std.specs.Prelude.{ℤ, pos, ◌+ℤ◌, ◌-ℤ◌, ◌<ℤ◌}
use Rattle.sopl_base.specs.declared.reason.Reason.{Reason}
use Rattle.sopl_base.specs.declared.reason.Side.{Side}
use Rattle.sopl_base.specs.declared.reason.Side.TheVariants.{Le, Ge}
use Rattle.sopl_base.specs.declared.reason.Step.{Step}
use Rattle.prop_shave.specs.declared.shave_steps.CellEnd.{CellEnd}

-- there is more than one value
abbrev pub IsWide : CellEnd → Type 0
IsWide end = end.lo <ℤ end.hi

-- the upper end of the same interval
abbrev pub upper_of : CellEnd → CellEnd
upper_of end = record { cell = end.cell; side = Le; lo = end.lo; hi = end.hi }

-- the least and the greatest of so many values at an end
abbrev pub lowest_at : Side → ℤ → ℤ → ℤ → ℤ
lowest_at Ge lo hi count = lo
lowest_at Le lo hi count = hi -ℤ (count -ℤ pos 1)

abbrev pub highest_at : Side → ℤ → ℤ → ℤ → ℤ
highest_at Ge lo hi count = lo +ℤ (count -ℤ pos 1)
highest_at Le lo hi count = hi

abbrev pub lowest : CellEnd → ℤ → ℤ
lowest end count = lowest_at end.side end.lo end.hi count

abbrev pub highest : CellEnd → ℤ → ℤ
highest end count = highest_at end.side end.lo end.hi count

-- where the interval ends without them
abbrev pub left_at : Side → ℤ → ℤ → ℤ → ℤ
left_at Ge lo hi count = lo +ℤ count
left_at Le lo hi count = hi -ℤ count

abbrev pub step_at : CellEnd → Reason → ℤ → Step
step_at end reason count =
    record { reason = reason; cell = end.cell; side = end.side; k = left_at end.side end.lo end.hi count }
