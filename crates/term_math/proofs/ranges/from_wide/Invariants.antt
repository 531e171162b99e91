use Rattle.std.proofs.Common.{◌≡◌, length}
use Rattle.term_math.specs.Kept.{sets_of}
use Rattle.term_math.specs.Within.{wide_sets}
use Rattle.term_math.proofs.ranges.from_wide.Given as goal

abbrev pub decreases-loop-set : goal.decreases-loop-set
decreases-loop-set l = length l.left

abbrev pub invariant-loop-set : goal.invariant-loop-set
invariant-loop-set l = wide_sets (sets_of l.left) ≡ wide_sets (sets_of l.sets)
