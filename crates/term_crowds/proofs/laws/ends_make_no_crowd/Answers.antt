use Rattle.term_crowds.proofs.Tight as lemmas
use Rattle.term_crowds.proofs.laws.ends_make_no_crowd.Goals as goal

pub returns : goal.returns
returns c = record { law = lemmas.ends_stay }
