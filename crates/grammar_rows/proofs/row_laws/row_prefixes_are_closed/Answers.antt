use Rattle.grammar_rows.proofs.WholeRows.{row_prefixes_are_closed}
use Rattle.grammar_rows.proofs.row_laws.row_prefixes_are_closed.Goals as goal

pub returns : goal.returns
returns c = record { law = row_prefixes_are_closed }
