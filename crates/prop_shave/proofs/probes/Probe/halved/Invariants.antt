use Rattle.std.proofs.Common.{pos}
use Rattle.std.specs.Int.{int_gap}
use Rattle.prop_shave.specs.Probes.{IsRemoval}
use Rattle.prop_shave.proofs.probes.Probe.halved.Given as goal

abbrev pub invariant-nearer : goal.invariant-nearer
invariant-nearer l = IsRemoval l.self l.end l.known

abbrev pub decreases-nearer : goal.decreases-nearer
decreases-nearer l = int_gap (pos 0) l.known.by
