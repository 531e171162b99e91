use Rattle.term_crowds.proofs.Shrinking as lemmas
use Rattle.term_crowds.proofs.shrinking_laws.low_end_stays_open.Goals as goal

pub returns : goal.returns
returns c = record { law = lemmas.low_open }
