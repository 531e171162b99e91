use Rattle.log_rows.proofs.Insides as lemmas
use Rattle.log_rows.proofs.log_laws.accepted_logs_are_right.Goals as goal

pub returns : goal.returns
returns c = record { law = lemmas.accepted_right }
