-- How deep the sides of a split lie.
use Rattle.std.proofs.Common.{◌≡◌, inl, inr, ℕ, ◌+◌, ◌<◌, ◌≤◌, ℤ, Bool, Option, None, arith}
use Rattle.std.proofs.lemmas.Bool.{cases_lt}
use Rattle.std.proofs.lemmas.Int.{ints}
use Rattle.sopl_base.specs.declared.reason.Side.TheVariants.{Le}
use Rattle.sopl_base.specs.declared.limits.TheConstants as largest
use Rattle.std.specs.Int.RustNames.{unsigned_abs}
use Rattle.box_problem.specs.Bits.{bits_in}
use Rattle.box_problem.specs.Box.{Box, Inside, high, low}
use Rattle.box_problem.specs.BoxProblem.{BoxProblem}
use Rattle.box_problem.specs.Near.{IsNearBox}
use Rattle.box_problem.specs.Steps.{cut_away, narrowed}
use Rattle.box_problem.proofs.Bits.{middles_take_a_bit, parts_have_no_more_bits}
use Rattle.box_problem.proofs.Boxes.{parts_of_parts}
use Rattle.box_problem.proofs.Counts.{gap_leads}
use Rattle.box_problem.proofs.Cuts.{cuts_make_parts}
use Rattle.brancher.specs.Picks.{IsFirstHalved}
use Rattle.brancher.specs.Rules.{Rule}
use Rattle.sopl_search.specs.Ends.{IsPickedCut, IsPosed, choice_of}
use Rattle.sopl_search.proofs.Resting.{near_part}
use Rattle.sopl_search.proofs.Sound.{picked_cuts}

-- both halves of a box have fewer bits than the box from which steps led there
halved_bits : (root start b : Box) (cell : ℕ) (k : ℤ) (low_first : Bool) → IsNearBox root → Inside start root → Inside b start → IsFirstHalved b.lows b.highs (choice_of cell k low_first)
    → (bits_in (narrowed b cell Le k) < bits_in start) × (bits_in (cut_away b cell Le k) < bits_in start)
halved_bits root start b cell k low_first near inside part first =
    let close = near_part root b near (parts_of_parts b start root part inside) in
    let low_near = close.lows cell first.cell.exists in
    let high_near = close.highs cell first.cell.exists in
    let order = part.is_box.ordered cell first.cell.exists in
    let fewer = middles_take_a_bit b cell k part.is_box first.cell.exists
    (omega (arith, ints, low_near.above, high_near.below, gap_leads (low b cell) (high b cell) order))
    first.cut.from_low first.cut.below_high first.cut.half first.cut.rounded in
    let most = parts_have_no_more_bits b start inside.is_box part in
    (omega (arith, fewer.0, most), omega (arith, fewer.1, most))

-- and no more than the root
few_bits : (problem : BoxProblem) (b : Box) (cell : ℕ) (k : ℤ) (asked : Option Rule) (depth : ℕ) (low_first : Bool) → IsPosed problem → Inside b problem.root
    → IsPickedCut asked depth b cell k low_first → (bits_in (narrowed b cell Le k) ≤ unsigned_abs largest.BITS) × (bits_in (cut_away b cell Le k) ≤ unsigned_abs largest.BITS)
few_bits problem b cell k asked depth low_first posed inside picked =
    let parts = cuts_make_parts b cell Le k inside.is_box (picked_cuts asked depth b cell k low_first picked) in
    let low_bits = parts_have_no_more_bits (narrowed b cell Le k) b inside.is_box parts.0 in
    let high_bits = parts_have_no_more_bits (cut_away b cell Le k) b inside.is_box parts.1 in
    let whole = parts_have_no_more_bits b problem.root posed.lawful.root inside in
    (omega (arith, low_bits, whole, posed.few_bits), omega (arith, high_bits, whole, posed.few_bits))

-- there is room for both sides: below depth 512 by the bits of the root, and from there on since the box is halved
abbrev pub HasRoom : ℕ → ℕ → Box → ℕ → ℤ → Type 0
HasRoom most depth b cell k = (depth + 1 + bits_in (narrowed b cell Le k) ≤ most) × (depth + 1 + bits_in (cut_away b cell Le k) ≤ most)

halved_room : (root start b : Box) (cell : ℕ) (k : ℤ) (most depth : ℕ) (low_first : Bool) → IsNearBox root → Inside start root → Inside b start
    → IsFirstHalved b.lows b.highs (choice_of cell k low_first) → depth + bits_in start ≤ most → HasRoom most depth b cell k
halved_room root start b cell k most depth low_first near inside part first room =
    let fewer = halved_bits root start b cell k low_first near inside part first in
    (omega (arith, room, fewer.0), omega (arith, room, fewer.1))

pub room_without : (problem : BoxProblem) (start b : Box) (cell : ℕ) (k : ℤ) (asked : Option Rule) (most depth : ℕ) (low_first : Bool) → IsPosed problem → Inside start problem.root
    → Inside b start → asked ≡ None → IsPickedCut asked depth b cell k low_first → depth + bits_in start ≤ most → HasRoom most depth b cell k
room_without problem start b cell k asked most depth low_first posed inside part none picked room =
    halved_room problem.root start b cell k most depth low_first posed.near inside part (picked.without none) room

pub room_below : (problem : BoxProblem) (start b : Box) (cell : ℕ) (k : ℤ) (asked : Option Rule) (depth : ℕ) (low_first : Bool) → IsPosed problem → Inside start problem.root
    → Inside b start → IsPickedCut asked depth b cell k low_first → depth + bits_in start ≤ 1536 → HasRoom 1536 depth b cell k
room_below problem start b cell k asked depth low_first posed inside part picked room =
    elim (cases_lt depth 512) [
      | inl less ↦
          let few = few_bits problem b cell k asked depth low_first posed (parts_of_parts b start problem.root part inside) picked in
          (omega (arith, less, few.0), omega (arith, less, few.1))
      | inr more ↦ halved_room problem.root start b cell k 1536 depth low_first posed.near inside part (picked.deep more) room
    ]
