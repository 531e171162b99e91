use Rattle.scen_laws.proofs.Splits.{scenarios_split}
use Rattle.scen_laws.proofs.laws.scenarios_split.Goals as goal

pub returns : goal.returns
returns c = record { law = scenarios_split }
