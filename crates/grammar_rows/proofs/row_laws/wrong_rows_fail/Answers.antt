use Rattle.grammar_rows.proofs.RowsPass.{wrong_rows_fail}
use Rattle.grammar_rows.proofs.row_laws.wrong_rows_fail.Goals as goal

pub returns : goal.returns
returns c = record { law = wrong_rows_fail }
