use Rattle.open_nodes.proofs.Joining.{takes_even}
use Rattle.open_nodes.proofs.laws.takes_are_even.Goals as goal

pub returns : goal.returns
returns c = record { law = takes_even }
