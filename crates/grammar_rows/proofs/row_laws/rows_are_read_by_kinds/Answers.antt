use Rattle.grammar_rows.proofs.LocalRows.{rows_are_read_by_kinds}
use Rattle.grammar_rows.proofs.row_laws.rows_are_read_by_kinds.Goals as goal

pub returns : goal.returns
returns c = record { law = rows_are_read_by_kinds }
