use Rattle.open_nodes.proofs.GoingOn.{row_goes_on}
use Rattle.open_nodes.proofs.laws.ways_go_on.Goals as goal

pub returns : goal.returns
returns c = record { law = λ rows more split is. row_goes_on rows more split is }
