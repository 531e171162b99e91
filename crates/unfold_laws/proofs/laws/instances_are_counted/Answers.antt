use Rattle.unfold_laws.proofs.Counts.{instances_are_counted}
use Rattle.unfold_laws.proofs.laws.instances_are_counted.Goals as goal

pub returns : goal.returns
returns c = record { law = instances_are_counted }
