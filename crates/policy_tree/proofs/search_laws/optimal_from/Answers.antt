use Rattle.policy_tree.proofs.Lifted.{optimal_from as law}
use Rattle.policy_tree.proofs.search_laws.optimal_from.Goals as goal

pub returns : goal.returns
returns c = record { optimal = law }
