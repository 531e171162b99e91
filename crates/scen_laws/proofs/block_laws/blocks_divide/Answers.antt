use Rattle.scen_laws.proofs.Blocks.{blocks_divide}
use Rattle.scen_laws.proofs.block_laws.blocks_divide.Goals as goal

pub returns : goal.returns
returns c = record { law = blocks_divide }
