use Rattle.policy_tree.proofs.Lifted.{infeasible_from as law}
use Rattle.policy_tree.proofs.search_laws.infeasible_from.Goals as goal

pub returns : goal.returns
returns c = record { infeasible = law }
