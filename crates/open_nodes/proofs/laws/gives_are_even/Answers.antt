use Rattle.open_nodes.proofs.Joining.{gives_even}
use Rattle.open_nodes.proofs.laws.gives_are_even.Goals as goal

pub returns : goal.returns
returns c = record { law = gives_even }
