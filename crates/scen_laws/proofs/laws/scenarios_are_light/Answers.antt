use Rattle.scen_laws.proofs.Weights.{scenarios_are_light}
use Rattle.scen_laws.proofs.laws.scenarios_are_light.Goals as goal

pub returns : goal.returns
returns c = record { law = scenarios_are_light }
