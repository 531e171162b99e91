use Rattle.log_check.proofs.Rejecting as lemma
use Rattle.log_check.proofs.laws.wrong_logs_are_rejected.Goals as goal

pub returns : goal.returns
returns c = record { law = lemma.wrong_logs_are_rejected }
