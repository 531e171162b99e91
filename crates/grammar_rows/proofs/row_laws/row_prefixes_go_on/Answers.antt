use Rattle.grammar_rows.proofs.FillingOut.{row_prefixes_go_on}
use Rattle.grammar_rows.proofs.row_laws.row_prefixes_go_on.Goals as goal

pub returns : goal.returns
returns c = record { law = row_prefixes_go_on }
