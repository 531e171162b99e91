use Rattle.policy_read.proofs.Reversed.{read_is_there}
use Rattle.policy_read.proofs.laws.read_is_there.Goals as goal

pub returns : goal.returns
returns c = record { law = read_is_there }
