use Rattle.term_crowds.proofs.Tight as lemmas
use Rattle.term_crowds.proofs.laws.tight_begin_at_lows.Goals as goal

pub returns : goal.returns
returns c = record { law = lemmas.begin_at_lows }
