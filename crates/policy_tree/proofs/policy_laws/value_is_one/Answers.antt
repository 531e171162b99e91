use Rattle.policy_tree.proofs.Values.{neither, one_worth, one_number}
use Rattle.policy_tree.proofs.policy_laws.value_is_one.Goals as goal

pub returns : goal.returns
returns c = record { neither = neither; value = one_number; numerator = one_worth }
