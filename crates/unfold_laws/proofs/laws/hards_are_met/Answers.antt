use Rattle.unfold_laws.proofs.Conditions.{hards_are_met}
use Rattle.unfold_laws.proofs.laws.hards_are_met.Goals as goal

pub returns : goal.returns
returns c = record { law = hards_are_met }
