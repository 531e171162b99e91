use Rattle.std.proofs.Common.{◌≡◌, ◌*◌, drop, length, option_map}
use Rattle.term_language.specs.Arrays.{indices}
use Rattle.term_math.specs.Shown.{box_in, ends_of}
use Rattle.term_math.specs.Kept.{items_of, sets_of}
use Rattle.term_math.specs.Within.{grown, ranges_of, reached_ends, wide_sets}
use Rattle.term_math.proofs.Reaching.{of_blocks}
use Rattle.term_math.proofs.ranges.+reached.Given as goal

abbrev pub decreases-reached : goal.decreases-reached
decreases-reached l = length (ranges_of l.ranges.now)

abbrev pub invariant-loop-number : goal.invariant-loop-number
invariant-loop-number l =
    (grown (option_map ends_of l.hull) (of_blocks (box_in l.view) (ends_of l.ends) (ranges_of l.later.now) (drop l.number-index l.numbers) (indices (wide_sets (sets_of l.behind))) (items_of l.left))
    ≡ grown (option_map ends_of l.fn.found) (reached_ends (box_in l.view) (ranges_of l.ranges) (wide_sets (sets_of l.sets)) (items_of l.elements)))
    × (length l.left ≡ length (drop l.number-index l.numbers) * length (indices (wide_sets (sets_of l.behind))))
