use Rattle.std.proofs.Common.{refl}
use Rattle.prop_chance.proofs.KeptWeights.{weight_told}
use Rattle.prop_chance.proofs.kept_weight.KeptWeight.tell.Goals as goal

pub returns-clause-keeps : goal.returns-clause-keeps
returns-clause-keeps c = λ root terms instance b d agree keeps. weight_told root b d terms instance c.args.cell c.args.self.now _ refl refl c.tell.ensures.told c.tell.ensures.listed agree keeps
