use Rattle.unfold_laws.proofs.Conditions.{chances_are_met}
use Rattle.unfold_laws.proofs.laws.chances_are_met.Goals as goal

pub returns : goal.returns
returns c = record { law = chances_are_met }
