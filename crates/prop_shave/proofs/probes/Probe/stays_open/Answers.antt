use Rattle.std.proofs.Common.{IfSome, subst}
use Rattle.prop_shave.specs.Probes.{IsWeighedOf}
use Rattle.prop_shave.proofs.probes.Probe.stays_open.Goals as goal

pub chance_stays_open-requires-clause-known : goal.chance_stays_open-requires-clause-known
chance_stays_open-requires-clause-known c =
    subst (λ o. IfSome o (IsWeighedOf c.args.self.now)) c.in-Some.is c.requires.asked.weighed
