use Rattle.std.proofs.Common.{◌-ℤ◌}
use Rattle.std.specs.Int.{int_gap}
use Rattle.prop_shave.specs.Probes.{IsRemoval}
use Rattle.prop_shave.proofs.probes.Probe.doubled.Given as goal

abbrev pub invariant-wider : goal.invariant-wider
invariant-wider l = IsRemoval l.self l.end l.known

abbrev pub decreases-wider : goal.decreases-wider
decreases-wider l = int_gap l.known.count (l.end.hi -ℤ l.end.lo)
