use Rattle.scen_laws.proofs.Histories.{histories_are_blocks}
use Rattle.scen_laws.proofs.block_laws.histories_are_blocks.Goals as goal

pub returns : goal.returns
returns c = record { law = histories_are_blocks }
