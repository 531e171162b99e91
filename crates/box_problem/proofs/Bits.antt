-- The bits of the parts of boxes.
use Rattle.std.proofs.Common.{◌≡◌, ℕ, zero, suc, ◌*◌, ◌^◌, ◌<◌, ◌≤◌, ℤ, pos, ◌+ℤ◌, ◌-ℤ◌, ◌*ℤ◌, ◌≤ℤ◌, ◌<ℤ◌, List, [], ◌∷◌, length, get_or, set, arith}
use Rattle.std.specs.Int.{int_gap}
use Rattle.std.proofs.lemmas.Int.{ints}
use Rattle.sopl_base.specs.declared.reason.Side.TheVariants.{Le}
use Rattle.box_problem.specs.Box.{Box, IsBox, Inside, low, high}
use Rattle.box_problem.specs.Steps.{narrowed, cut_away}
use Rattle.box_problem.proofs.Counts.{gap_leads}
use Rattle.box_problem.specs.Bits.{bits_between, bits_in, digits}
use Rattle.box_problem.proofs.Digits.{digits_halved, digits_most}

-- an interval within another one
gap_most : (lo hi from to : ℤ) → from ≤ℤ lo → lo ≤ℤ hi → hi ≤ℤ to → int_gap lo hi ≤ int_gap from to
gap_most lo hi from to low order high =
    omega (arith, ints, low, high, gap_leads lo hi order, gap_leads from to (omega (arith, ints, low, order, high)))

bits_most : (lows highs wide_lows wide_highs : List ℤ) → length highs ≡ length lows → length lows ≡ length wide_lows → length wide_highs ≡ length wide_lows
    → ((cell : ℕ) → cell < length lows → (get_or wide_lows cell (pos 0) ≤ℤ get_or lows cell (pos 0)) × (get_or lows cell (pos 0) ≤ℤ get_or highs cell (pos 0)) ×
    (get_or highs cell (pos 0) ≤ℤ get_or wide_highs cell (pos 0)))
    → bits_between lows highs ≤ bits_between wide_lows wide_highs
bits_most [] highs wide_lows wide_highs paired same wide each = omega arith
bits_most (lo ∷ lows) [] wide_lows wide_highs paired same wide each = absurd (omega (arith, paired))
bits_most (lo ∷ lows) (hi ∷ highs) [] wide_highs paired same wide each = absurd (omega (arith, same))
bits_most (lo ∷ lows) (hi ∷ highs) (from ∷ wide_lows) [] paired same wide each = absurd (omega (arith, wide))
bits_most (lo ∷ lows) (hi ∷ highs) (from ∷ wide_lows) (to ∷ wide_highs) paired same wide each =
    let here = each zero (omega arith) in
    let first = digits_most (int_gap lo hi) (int_gap from to) (gap_most lo hi from to here.0 here.1 here.2) in
    let later = bits_most lows highs wide_lows wide_highs (omega (arith, paired)) (omega (arith, same)) (omega (arith, wide)) (λ cell exists. each (suc cell) (omega (arith, exists))) in
    omega (arith, first, later)

pub parts_have_no_more_bits : (part whole : Box) → IsBox whole → Inside part whole → bits_in part ≤ bits_in whole
parts_have_no_more_bits part whole is_box inside =
    bits_most part.lows part.highs whole.lows whole.highs inside.is_box.paired inside.same_cells is_box.paired
    (λ cell exists. (inside.from_low cell exists, inside.is_box.ordered cell exists, inside.to_high cell exists))

-- the one interval has fewer digits, and all others stay
bits_lowered : (lows highs : List ℤ) (cell : ℕ) (k : ℤ) → cell < length lows → length highs ≡ length lows
    → digits (int_gap (get_or lows cell (pos 0)) k) < digits (int_gap (get_or lows cell (pos 0)) (get_or highs cell (pos 0))) → bits_between lows (set highs cell k) < bits_between lows highs
bits_lowered [] highs cell k exists paired fewer = absurd (omega (arith, exists))
bits_lowered (lo ∷ lows) [] cell k exists paired fewer = absurd (omega (arith, paired))
bits_lowered (lo ∷ lows) (hi ∷ highs) zero k exists paired fewer = omega (arith, fewer)
bits_lowered (lo ∷ lows) (hi ∷ highs) (suc cell) k exists paired fewer =
    omega (arith, bits_lowered lows highs cell k (omega (arith, exists)) (omega (arith, paired)) fewer)

bits_raised : (lows highs : List ℤ) (cell : ℕ) (k : ℤ) → cell < length lows → length highs ≡ length lows
    → digits (int_gap k (get_or highs cell (pos 0))) < digits (int_gap (get_or lows cell (pos 0)) (get_or highs cell (pos 0))) → bits_between (set lows cell k) highs < bits_between lows highs
bits_raised [] highs cell k exists paired fewer = absurd (omega (arith, exists))
bits_raised (lo ∷ lows) [] cell k exists paired fewer = absurd (omega (arith, paired))
bits_raised (lo ∷ lows) (hi ∷ highs) zero k exists paired fewer = omega (arith, fewer)
bits_raised (lo ∷ lows) (hi ∷ highs) (suc cell) k exists paired fewer =
    omega (arith, bits_raised lows highs cell k (omega (arith, exists)) (omega (arith, paired)) fewer)

-- the halves of an interval
low_half : (lo k hi : ℤ) → lo ≤ℤ k → k <ℤ hi → (pos 2 *ℤ (k -ℤ lo)) ≤ℤ (hi -ℤ lo) → 2 * int_gap lo k ≤ int_gap lo hi
low_half lo k hi above below half =
    omega (arith, ints, half, gap_leads lo k above, gap_leads lo hi (omega (arith, ints, above, below)))

high_half : (lo k hi : ℤ) → lo ≤ℤ k → k <ℤ hi → (hi -ℤ lo) ≤ℤ (pos 2 *ℤ (k -ℤ lo) +ℤ pos 1) → 2 * int_gap (k +ℤ pos 1) hi ≤ int_gap lo hi
high_half lo k hi above below rounded =
    omega (arith, ints, rounded, gap_leads (k +ℤ pos 1) hi (omega (arith, ints, below)), gap_leads lo hi (omega (arith, ints, above, below)))

some_gap : (lo hi : ℤ) → lo <ℤ hi → 0 < int_gap lo hi
some_gap lo hi order = omega (arith, ints, order, gap_leads lo hi (omega (arith, ints, order)))

pub middles_take_a_bit : (b : Box) (cell : ℕ) (k : ℤ) → IsBox b → cell < length b.lows → int_gap (low b cell) (high b cell) < 2 ^ 64 → low b cell ≤ℤ k → k <ℤ high b cell
    → (pos 2 *ℤ (k -ℤ low b cell)) ≤ℤ (high b cell -ℤ low b cell) → (high b cell -ℤ low b cell) ≤ℤ (pos 2 *ℤ (k -ℤ low b cell) +ℤ pos 1)
    → (bits_in (narrowed b cell Le k) < bits_in b) × (bits_in (cut_away b cell Le k) < bits_in b)
middles_take_a_bit b cell k is_box exists small above below half rounded =
    let lo = low b cell in
    let hi = high b cell in
    let some = some_gap lo hi (omega (arith, ints, above, below)) in (
      bits_lowered b.lows b.highs cell k exists is_box.paired (digits_halved (int_gap lo k) (int_gap lo hi) (low_half lo k hi above below half) some small),
      bits_raised b.lows b.highs cell (k +ℤ pos 1) exists is_box.paired (digits_halved (int_gap (k +ℤ pos 1) hi) (int_gap lo hi) (high_half lo k hi above below rounded) some small),
    )
