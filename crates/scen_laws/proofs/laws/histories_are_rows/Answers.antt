use Rattle.scen_laws.proofs.Seen.{histories_are_rows}
use Rattle.scen_laws.proofs.laws.histories_are_rows.Goals as goal

pub returns : goal.returns
returns c = record { law = histories_are_rows }
