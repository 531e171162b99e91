use Rattle.scen_laws.proofs.Blocks.{histories_go_on}
use Rattle.scen_laws.proofs.block_laws.histories_go_on.Goals as goal

pub returns : goal.returns
returns c = record { law = histories_go_on }
