use Rattle.grammar_rows.proofs.RowsPass.{each_passes}
use Rattle.grammar_rows.proofs.row_laws.rows_pass.Goals as goal

pub returns : goal.returns
returns c = record { law = each_passes }
