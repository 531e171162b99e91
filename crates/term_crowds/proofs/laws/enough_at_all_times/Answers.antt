use Rattle.term_crowds.proofs.Times as lemmas
use Rattle.term_crowds.proofs.laws.enough_at_all_times.Goals as goal

pub returns : goal.returns
returns c = record { law = lemmas.at_all_times }
