use Rattle.prop_shave.proofs.Opening.{removal_right}
use Rattle.prop_shave.proofs.probes.Probe.step_from.Goals as goal

pub returns-clause-right : goal.returns-clause-right
returns-clause-right c =
    removal_right c.args.self.now c.args.end.now c.halved-known.result c.step.result c.requires.end c.halved-known.ensures.removal c.step.ensures
