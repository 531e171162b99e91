use Rattle.std.proofs.Common.{◌-◌}
use Rattle.prop_linear.specs.Maxima.{IsZero}
use Rattle.prop_linear.proofs.maxima.Maxima.new.Given as goal

abbrev pub invariant-levels : goal.invariant-levels
invariant-levels l = IsZero l.made

abbrev pub decreases-levels : goal.decreases-levels
decreases-levels l = l.places - l.made.first
