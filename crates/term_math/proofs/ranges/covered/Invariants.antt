use Rattle.std.proofs.Common.{◌≡◌}
use Rattle.std.specs.Int.{int_gap}
use Rattle.term_language.specs.Arrays.{is_covered}
use Rattle.term_math.specs.Shown.{ends_of}
use Rattle.term_math.proofs.ranges.covered.Given as goal

abbrev pub decreases-loop-left : goal.decreases-loop-left
decreases-loop-left l = int_gap l.left.low l.left.high

abbrev pub invariant-loop-left : goal.invariant-loop-left
invariant-loop-left l = is_covered (ends_of l.ends) l.set ≡ is_covered (ends_of l.left) l.set
