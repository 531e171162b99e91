use Rattle.grammar_rows.proofs.WholeRows.{tokens_end_in_rows}
use Rattle.grammar_rows.proofs.row_laws.tokens_end_in_rows.Goals as goal

pub returns : goal.returns
returns c = record { law = tokens_end_in_rows }
