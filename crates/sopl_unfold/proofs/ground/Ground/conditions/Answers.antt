use Rattle.sopl_unfold.proofs.Texts.{conditions_stated}
use Rattle.sopl_unfold.proofs.ground.Ground.conditions.Goals as goal

pub returns : goal.returns
returns c = record { conditions = conditions_stated _ _ c.model.ensures.same c.conditions.result c.conditions.ensures }
