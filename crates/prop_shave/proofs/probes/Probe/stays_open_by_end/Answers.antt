use Rattle.std.proofs.Common.{IfSome, subst}
use Rattle.prop_shave.specs.Probes.{IsCountedOf}
use Rattle.prop_shave.proofs.probes.Probe.stays_open_by_end.Goals as goal

pub bound_stays_open-requires-clause-known : goal.bound_stays_open-requires-clause-known
bound_stays_open-requires-clause-known c =
    subst (λ o. IfSome o (IsCountedOf c.args.self.now)) c.in-Some.is c.requires.asked.counted
