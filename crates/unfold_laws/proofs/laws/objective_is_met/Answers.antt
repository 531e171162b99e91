use Rattle.unfold_laws.proofs.Conditions.{objective_is_met}
use Rattle.unfold_laws.proofs.laws.objective_is_met.Goals as goal

pub returns : goal.returns
returns c = record { law = objective_is_met }
