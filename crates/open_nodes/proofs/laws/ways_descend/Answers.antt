use Rattle.open_nodes.proofs.GoingOn.{way_descends}
use Rattle.open_nodes.proofs.laws.ways_descend.Goals as goal

pub returns : goal.returns
returns c = record { law = λ rows split hang is. way_descends rows split hang is }
