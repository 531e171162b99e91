use Rattle.policy_tree.proofs.Bijection.{points_are_policies as law}
use Rattle.policy_tree.proofs.one_to_one.points_are_policies.Goals as goal

pub returns : goal.returns
returns c = record { policy = law }
