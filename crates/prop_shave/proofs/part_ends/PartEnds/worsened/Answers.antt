use Rattle.prop_shave.proofs.Reaching.{worsened_is}
use Rattle.prop_shave.proofs.part_ends.PartEnds.worsened.Goals as goal

pub returns-in-Some : goal.returns-in-Some
returns-in-Some c = worsened_is c.args.self.now c.in-Some.worse c.args.sum.value c.turned.result c.in-Some.is c.turned.ensures
