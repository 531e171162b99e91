use Rattle.std.proofs.Common.{IfSome, subst}
use Rattle.prop_shave.specs.Probes.{IsWeighedOf}
use Rattle.prop_shave.proofs.probes.Probe.closes_by_delta.Goals as goal

pub closes_by_chance_delta-requires-clause-known : goal.closes_by_chance_delta-requires-clause-known
closes_by_chance_delta-requires-clause-known c =
    subst (λ o. IfSome o (IsWeighedOf c.args.self.now)) c.in-Some.is c.requires.asked.weighed
