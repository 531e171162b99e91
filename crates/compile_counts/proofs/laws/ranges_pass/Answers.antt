use Rattle.compile_counts.proofs.Binding.{ranges_pass}
use Rattle.compile_counts.proofs.laws.ranges_pass.Goals as goal

pub returns : goal.returns
returns c = record { law = ranges_pass }
