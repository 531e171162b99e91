use Rattle.scen_laws.proofs.Splits.{scenarios_extend}
use Rattle.scen_laws.proofs.laws.scenarios_extend.Goals as goal

pub returns : goal.returns
returns c = record { law = scenarios_extend }
