use Rattle.scen_laws.proofs.Counts.{scenarios_are_counted}
use Rattle.scen_laws.proofs.laws.scenarios_are_counted.Goals as goal

pub returns : goal.returns
returns c = record { law = scenarios_are_counted }
