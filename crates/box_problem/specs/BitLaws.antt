-- What holds of the bits of boxes.
use Rattle.std.specs.Prelude.{ℕ, ◌^◌, ◌<◌, ◌≤◌, ℤ, pos, ◌+ℤ◌, ◌-ℤ◌, ◌*ℤ◌, ◌≤ℤ◌, ◌<ℤ◌, length}
use Rattle.std.specs.Int.{int_gap}
use Rattle.sopl_base.specs.declared.reason.Side.TheVariants.{Le}
use Rattle.box_problem.specs.Box.{Box, IsBox, Inside, low, high}
use Rattle.box_problem.specs.Steps.{narrowed, cut_away}
use Rattle.box_problem.specs.Bits.{bits_in}

-- a part has no more bits than the whole
abbrev pub PartsHaveNoMoreBits : Type 0
PartsHaveNoMoreBits = (part whole : Box) → IsBox whole → Inside part whole → bits_in part ≤ bits_in whole

-- a cut in the middle of an interval leaves fewer bits on both sides
abbrev pub MiddlesTakeABit : Type 0
MiddlesTakeABit =
    (b : Box) (cell : ℕ) (k : ℤ) → IsBox b → cell < length b.lows → int_gap (low b cell) (high b cell) < 2 ^ 64
    → low b cell ≤ℤ k → k <ℤ high b cell
    → (pos 2 *ℤ (k -ℤ low b cell)) ≤ℤ (high b cell -ℤ low b cell)
    → (high b cell -ℤ low b cell) ≤ℤ (pos 2 *ℤ (k -ℤ low b cell) +ℤ pos 1)
    → (bits_in (narrowed b cell Le k) < bits_in b) × (bits_in (cut_away b cell Le k) < bits_in b)
