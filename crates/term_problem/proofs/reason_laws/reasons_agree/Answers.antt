use Rattle.term_problem.proofs.Reasons as lemmas
use Rattle.term_problem.proofs.reason_laws.reasons_agree.Goals as goal

pub returns : goal.returns
returns c = record { law = lemmas.reasons_agree }
