use Rattle.model_gen.proofs.MadeByHand.{one_stage, two_stages}
use Rattle.model_gen.proofs.worked.worked_texts.Goals as goal

pub returns-clause-one_stage : goal.returns-clause-one_stage
returns-clause-one_stage c = one_stage

pub returns-clause-two_stages : goal.returns-clause-two_stages
returns-clause-two_stages c = two_stages
