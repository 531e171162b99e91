use Rattle.compile_laws.proofs.Means.{instances_mean}
use Rattle.compile_laws.proofs.laws.instances_mean.Goals as goal

pub returns : goal.returns
returns c = record { law = instances_mean }
