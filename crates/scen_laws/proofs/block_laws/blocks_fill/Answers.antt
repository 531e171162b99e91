use Rattle.scen_laws.proofs.Blocks.{blocks_fill}
use Rattle.scen_laws.proofs.block_laws.blocks_fill.Goals as goal

pub returns : goal.returns
returns c = record { law = blocks_fill }
