use Rattle.std.proofs.Common.{arith, pos}
use Rattle.std.proofs.lemmas.Int.{ints}
use Rattle.box_problem.proofs.Counts.{gap_above}
use Rattle.prop_shave.proofs.probes.Probe.halved.Goals as goal

pub nearer-smaller : goal.nearer-smaller
nearer-smaller c =
    gap_above (pos 0) c.nearer-known.result.by c.nearer.known.by (omega (arith, ints, c.nearer-known.ensures.removal.more)) c.nearer-known.ensures.less
