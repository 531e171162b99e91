use Rattle.prop_shave.proofs.Opening.{fixed_open}
use Rattle.prop_shave.proofs.probes.Probe.step_at.Goals as goal

pub returns-in_default-clause-none : goal.returns-in_default-clause-none
returns-in_default-clause-none c =
    fixed_open c.args.self.now c.args.cell c.requires.whole c.in_default.ensures.none
