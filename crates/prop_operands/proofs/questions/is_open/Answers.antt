use Rattle.prop_shave.proofs.Opening.{fixed_open}
use Rattle.prop_operands.proofs.questions.is_open.Goals as goal

pub returns-in_default-clause-open_there : goal.returns-in_default-clause-open_there
returns-in_default-clause-open_there g c = λ is. fixed_open c.args.probe.now c.args.cell c.requires.whole c.in_default.ensures.none
