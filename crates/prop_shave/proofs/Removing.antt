-- What is known where values at an end were tried.
use Rattle.std.proofs.Common.{◌≡◌, ℕ, ◌<◌, ℤ, pos, ◌+ℤ◌, ◌-ℤ◌, ◌≤ℤ◌, Bool, true, false, length, arith, ap, sym, ◌∙◌}
use Rattle.std.proofs.lemmas.Int.{ints}
use Rattle.sopl_base.specs.declared.reason.Reason.{Reason}
use Rattle.sopl_base.specs.declared.reason.Side.{Side}
use Rattle.sopl_base.specs.declared.reason.Side.TheVariants.{Le, Ge}
use Rattle.box_problem.specs.Box.{Box, high, low, with_high, with_low}
use Rattle.term_program.specs.Programs.{with_interval}
use Rattle.prop_shave.specs.Ends.{highest_at, left_at, lowest_at}
use Rattle.prop_shave.specs.Removals.{IsOpenAt, Removes}
use Rattle.prop_shave.proofs.Parts.{part_high, part_low, same_high, same_low}

-- the outermost value at the lower end, and at the upper one
pub low_stays : (closes : Box → Bool) (b : Box) (cell : ℕ) (side : Side) (lo hi : ℤ) → side ≡ Ge → lo ≡ low b cell
    → closes (with_interval b cell (lowest_at side lo hi (pos 1)) (highest_at side lo hi (pos 1))) ≡ closes (with_high b cell (low b cell))
low_stays closes b cell side lo hi lower is =
    let first : lowest_at side lo hi (pos 1) ≡ low b cell = ap (λ (s : Side). lowest_at s lo hi (pos 1)) lower ∙ is in
    let one : lo +ℤ (pos 1 -ℤ pos 1) ≡ low b cell = omega (arith, ints, is) in
    let last : highest_at side lo hi (pos 1) ≡ low b cell = ap (λ (s : Side). highest_at s lo hi (pos 1)) lower ∙ one in
    ap closes (part_low b cell _ _ (low b cell) first last)

pub high_stays : (closes : Box → Bool) (b : Box) (cell : ℕ) (side : Side) (lo hi : ℤ) → side ≡ Le → hi ≡ high b cell
    → closes (with_interval b cell (lowest_at side lo hi (pos 1)) (highest_at side lo hi (pos 1))) ≡ closes (with_low b cell (high b cell))
high_stays closes b cell side lo hi upper is =
    let one : hi -ℤ (pos 1 -ℤ pos 1) ≡ high b cell = omega (arith, ints, is) in
    let first : lowest_at side lo hi (pos 1) ≡ high b cell = ap (λ (s : Side). lowest_at s lo hi (pos 1)) upper ∙ one in
    let last : highest_at side lo hi (pos 1) ≡ high b cell = ap (λ (s : Side). highest_at s lo hi (pos 1)) upper ∙ is in
    ap closes (part_high b cell _ _ (high b cell) first last)

-- a cell with one value is open where the box is not closed
pub fixed_open : (closes : Box → Bool) (b : Box) (cell : ℕ) → closes b ≡ false → (cell < length b.lows → low b cell ≡ high b cell) → IsOpenAt closes b cell
fixed_open closes b cell whole fixed = record {
  at_low = λ exists. ap closes (ap (λ (z : ℤ). with_high b cell z) (fixed exists) ∙ same_high b cell) ∙ whole;
  at_high = λ exists. ap closes (ap (λ (z : ℤ). with_low b cell z) (sym (fixed exists)) ∙ same_low b cell) ∙ whole;
}

-- values at an end that are closed are removed by a step
pub removes_at : (closes : Box → Bool) (b : Box) (reason : Reason) (cell : ℕ) (side : Side) (lo hi count : ℤ) → cell < length b.lows → lo ≡ low b cell → hi ≡ high b cell → pos 1 ≤ℤ count
    → count ≤ℤ (hi -ℤ lo) → closes (with_interval b cell (lowest_at side lo hi count) (highest_at side lo hi count)) ≡ true
    → Removes closes b (record { reason = reason; cell = cell; side = side; k = left_at side lo hi count })
removes_at closes b reason cell Ge lo hi count exists is_low is_high some fewer closed = record {
  cut = record { exists = exists; between = (omega (arith, ints, is_low, some), omega (arith, ints, is_high, fewer)) };
  closed = sym (ap closes (part_low b cell lo (lo +ℤ (count -ℤ pos 1)) ((lo +ℤ count) -ℤ pos 1) is_low (omega (arith, ints)))) ∙ closed;
}
removes_at closes b reason cell Le lo hi count exists is_low is_high some fewer closed = record {
  cut = record { exists = exists; between = (omega (arith, ints, is_low, fewer), omega (arith, ints, is_high, some)) };
  closed = sym (ap closes (part_high b cell (hi -ℤ (count -ℤ pos 1)) hi ((hi -ℤ count) +ℤ pos 1) (omega (arith, ints)) is_high)) ∙ closed;
}
