use Rattle.log_rows.proofs.Logging as lemmas
use Rattle.log_rows.proofs.log_laws.depths_after_end.Goals as goal

pub returns : goal.returns
returns c = record { law = lemmas.depths_after_end }
