use Rattle.scen_laws.proofs.Rows.{rows_differ}
use Rattle.scen_laws.proofs.laws.rows_differ.Goals as goal

pub returns : goal.returns
returns c = record { law = rows_differ }
