use Rattle.scen_laws.proofs.Counts.{prefixes_are_fewer}
use Rattle.scen_laws.proofs.laws.prefixes_are_fewer.Goals as goal

pub returns : goal.returns
returns c = record { law = prefixes_are_fewer }
