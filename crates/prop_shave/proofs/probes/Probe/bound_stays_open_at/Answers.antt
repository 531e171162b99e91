use Rattle.std.proofs.Common.{IfSome, subst}
use Rattle.prop_shave.specs.GoalSums.{parts_over}
use Rattle.prop_shave.specs.Turns.{AreEndTurns}
use Rattle.prop_shave.proofs.probes.Probe.bound_stays_open_at.Goals as goal

pub is_better_at_ends-requires-clause-turns : goal.is_better_at_ends-requires-clause-turns
is_better_at_ends-requires-clause-turns c =
    let q = c.args.self.now in
    let k = c.args.counted.now in
    subst (λ o. IfSome o (AreEndTurns (parts_over q.program.now k.atoms.now) q.store.now.box k.cell)) c.in-Some.is c.requires.known.known.turns
