use Rattle.policy_tree.proofs.Bijection.{points_differ as law}
use Rattle.policy_tree.proofs.one_to_one.points_differ.Goals as goal

pub returns : goal.returns
returns c = record { once = law }
