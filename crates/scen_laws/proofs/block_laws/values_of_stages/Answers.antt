use Rattle.scen_laws.proofs.Histories.{values_of_stages}
use Rattle.scen_laws.proofs.block_laws.values_of_stages.Goals as goal

pub returns : goal.returns
returns c = record { law = values_of_stages }
