use Rattle.std.proofs.Common.{◌≡◌, length}
use Rattle.term_math.specs.Ascending.{ascends}
use Rattle.term_math.proofs.ascending.is_ascending.Given as goal

abbrev pub decreases-loop-first : goal.decreases-loop-first
decreases-loop-first l = length l.left

abbrev pub invariant-loop-first : goal.invariant-loop-first
invariant-loop-first l = ascends l.left ≡ ascends l.set
