use Rattle.std.proofs.Common.{length}
use Rattle.term_math.specs.Within.{ranges_of}
use Rattle.term_math.proofs.ranges.+is_lacking.Given as goal

abbrev pub decreases-is_lacking : goal.decreases-is_lacking
decreases-is_lacking l = length (ranges_of l.ranges.now)
