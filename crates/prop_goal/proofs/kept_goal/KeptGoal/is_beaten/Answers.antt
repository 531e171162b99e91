use Rattle.std.proofs.Common.{subst}
use Rattle.prop_goal.specs.Goals.{KnowsGoal}
use Rattle.prop_goal.specs.declared.kept_goal.KeptGoal.{KeptGoal}
use Rattle.prop_goal.proofs.kept_goal.KeptGoal.is_beaten.Goals as goal

pub is_beaten-requires-clause-end : goal.is_beaten-requires-clause-end
is_beaten-requires-clause-end c =
    (subst (λ (k : KeptGoal). KnowsGoal k c.args.probe.now.program.now c.requires.known.0 c.args.probe.now.store.now.box) c.in-Expected.is c.requires.known.1).known.end
