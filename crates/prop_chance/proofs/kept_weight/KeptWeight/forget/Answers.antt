use Rattle.prop_chance.proofs.KeptWeights.{forgotten}
use Rattle.prop_chance.proofs.kept_weight.KeptWeight.forget.Goals as goal

pub returns-clause-keeps : goal.returns-clause-keeps
returns-clause-keeps c = λ root terms instance b. forgotten root b terms instance _ c.clear.ensures.cleared c.clear.ensures.left c.let_all_wait.ensures.all c.let_all_wait.ensures.listed
