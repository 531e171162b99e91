use Rattle.compile_laws.proofs.Repeating.{instances_repeat}
use Rattle.compile_laws.proofs.laws.instances_repeat.Goals as goal

pub returns : goal.returns
returns c = record { law = instances_repeat }
