use Rattle.scen_laws.proofs.Weights.{weights_multiply}
use Rattle.scen_laws.proofs.laws.weights_multiply.Goals as goal

pub returns : goal.returns
returns c = record { law = weights_multiply }
