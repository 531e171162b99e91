use Rattle.grammar_rows.proofs.OneValue.{rows_have_one_value}
use Rattle.grammar_rows.proofs.row_laws.rows_have_one_value.Goals as goal

pub returns : goal.returns
returns c = record { law = rows_have_one_value }
