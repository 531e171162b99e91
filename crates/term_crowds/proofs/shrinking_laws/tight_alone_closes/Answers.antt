use Rattle.term_crowds.proofs.Shrinking as lemmas
use Rattle.term_crowds.proofs.shrinking_laws.tight_alone_closes.Goals as goal

pub returns : goal.returns
returns c = record { law = lemmas.tight_alone }
