use Rattle.grammar_rows.proofs.RowsRead.{spelled_rows_are_read}
use Rattle.grammar_rows.proofs.row_laws.spelled_rows_are_read.Goals as goal

pub returns : goal.returns
returns c = record { law = spelled_rows_are_read }
