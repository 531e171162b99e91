use Rattle.term_crowds.proofs.Crowding as lemmas
use Rattle.term_crowds.proofs.laws.apart_uncrowded.Goals as goal

pub returns : goal.returns
returns c = record { law = lemmas.apart_uncrowded }
