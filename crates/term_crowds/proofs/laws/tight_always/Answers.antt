use Rattle.term_crowds.proofs.Tight as lemmas
use Rattle.term_crowds.proofs.laws.tight_always.Goals as goal

pub returns : goal.returns
returns c = record { law = lemmas.tight_closes }
