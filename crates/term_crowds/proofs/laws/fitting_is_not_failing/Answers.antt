use Rattle.term_crowds.proofs.Truths as lemmas
use Rattle.term_crowds.proofs.laws.fitting_is_not_failing.Goals as goal

pub returns : goal.returns
returns c = record { law = lemmas.fitting_open }
