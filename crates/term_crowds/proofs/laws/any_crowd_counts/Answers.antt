use Rattle.term_crowds.proofs.Crowding as lemmas
use Rattle.term_crowds.proofs.laws.any_crowd_counts.Goals as goal

pub returns : goal.returns
returns c = record { law = lemmas.any_crowd }
