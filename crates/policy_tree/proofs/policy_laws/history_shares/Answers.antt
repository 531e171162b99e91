use Rattle.policy_tree.proofs.Values.{shares}
use Rattle.policy_tree.proofs.policy_laws.history_shares.Goals as goal

pub returns : goal.returns
returns c = record { shares = shares }
