use Rattle.std.proofs.Common.{◌-◌, ◌≤◌}
use Rattle.prop_linear.proofs.maxima.Maxima.first_from.Given as goal

abbrev pub invariant-levels : goal.invariant-levels
invariant-levels l = record { some : 1 ≤ l.node }

abbrev pub decreases-levels : goal.decreases-levels
decreases-levels l = l.self.first - l.node
