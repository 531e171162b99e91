use Rattle.grammar_rows.proofs.ModelTies.{rows_tied}
use Rattle.grammar_rows.proofs.grammar_laws.rows_are_read_alike.Goals as goal

pub returns : goal.returns
returns c = record { law = rows_tied }
