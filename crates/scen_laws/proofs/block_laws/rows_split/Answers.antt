use Rattle.scen_laws.proofs.BlockRows.{rows_split}
use Rattle.scen_laws.proofs.block_laws.rows_split.Goals as goal

pub returns : goal.returns
returns c = record { law = rows_split }
