use Rattle.grammar_rows.proofs.RowsRead.{read_rows_are_spelled}
use Rattle.grammar_rows.proofs.row_laws.read_rows_are_spelled.Goals as goal

pub returns : goal.returns
returns c = record { law = read_rows_are_spelled }
