use Rattle.grammar_rows.proofs.RowsRead.{rows_take_tokens}
use Rattle.grammar_rows.proofs.row_laws.rows_take_tokens.Goals as goal

pub returns : goal.returns
returns c = record { law = rows_take_tokens }
