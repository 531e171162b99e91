use Rattle.term_crowds.proofs.Times as lemmas
use Rattle.term_crowds.proofs.laws.any_time_may_peak.Goals as goal

pub returns : goal.returns
returns c = record { law = lemmas.any_time }
