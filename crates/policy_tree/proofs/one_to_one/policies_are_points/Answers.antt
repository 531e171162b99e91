use Rattle.policy_tree.proofs.Bijection.{policies_are_points as law}
use Rattle.policy_tree.proofs.one_to_one.policies_are_points.Goals as goal

pub returns : goal.returns
returns c = record { point = law }
