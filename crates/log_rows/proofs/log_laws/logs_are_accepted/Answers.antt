use Rattle.log_rows.proofs.Closing as lemmas
use Rattle.log_rows.proofs.log_laws.logs_are_accepted.Goals as goal

pub returns : goal.returns
returns c = record { law = lemmas.logs_are_accepted }
