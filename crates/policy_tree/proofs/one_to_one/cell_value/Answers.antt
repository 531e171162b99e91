use Rattle.policy_tree.proofs.Bijection.{cell_value as law}
use Rattle.policy_tree.proofs.one_to_one.cell_value.Goals as goal

pub returns : goal.returns
returns c = record { value = law }
