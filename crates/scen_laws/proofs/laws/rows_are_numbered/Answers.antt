use Rattle.scen_laws.proofs.Rows.{rows_are_numbered}
use Rattle.scen_laws.proofs.laws.rows_are_numbered.Goals as goal

pub returns : goal.returns
returns c = record { law = rows_are_numbered }
