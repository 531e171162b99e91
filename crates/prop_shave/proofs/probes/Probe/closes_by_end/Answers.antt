use Rattle.std.proofs.Common.{IfSome, subst}
use Rattle.prop_shave.specs.Probes.{IsCountedOf}
use Rattle.prop_shave.proofs.probes.Probe.closes_by_end.Goals as goal

pub closes_by_goal_delta-requires-clause-known : goal.closes_by_goal_delta-requires-clause-known
closes_by_goal_delta-requires-clause-known c =
    subst (λ o. IfSome o (IsCountedOf c.args.self.now)) c.in-Some.is c.requires.asked.counted
