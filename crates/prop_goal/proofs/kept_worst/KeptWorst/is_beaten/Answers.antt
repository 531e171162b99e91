use Rattle.std.proofs.Common.{refl, false}
use Rattle.prop_goal.proofs.Objectives.{closed_alone}
use Rattle.prop_goal.proofs.kept_worst.KeptWorst.is_beaten.Goals as goal

pub returns-in-None : goal.returns-in-None
returns-in-None c = closed_alone c.args.probe.now false c.requires.reason c.in-None.ensures.none refl
