use Rattle.term_crowds.proofs.Crowding as lemmas
use Rattle.term_crowds.proofs.laws.windows_find_crowds.Goals as goal

pub returns : goal.returns
returns c = record { law = lemmas.windows_find }
