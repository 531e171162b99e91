use Rattle.grammar_rows.proofs.RowsRead.{rows_may_be_missing}
use Rattle.grammar_rows.proofs.row_laws.rows_may_be_missing.Goals as goal

pub returns : goal.returns
returns c = record { law = rows_may_be_missing }
