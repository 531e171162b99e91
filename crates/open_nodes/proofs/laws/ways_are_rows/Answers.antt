use Rattle.open_nodes.proofs.Places.{side_as_row}
use Rattle.open_nodes.proofs.laws.ways_are_rows.Goals as goal

pub returns : goal.returns
returns c = record { law = λ root rows split side hang is. side_as_row root rows split side hang is }
