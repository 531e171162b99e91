use Rattle.log_rows.proofs.Truth as lemmas
use Rattle.log_rows.proofs.log_laws.logs_are_true.Goals as goal

pub returns : goal.returns
returns c = record { law = lemmas.logs_are_true }
