use Rattle.compile_counts.proofs.Binding.{bodies_pass}
use Rattle.compile_counts.proofs.laws.bodies_pass.Goals as goal

pub returns : goal.returns
returns c = record { law = bodies_pass }
