use Rattle.term_crowds.proofs.Tight as lemmas
use Rattle.term_crowds.proofs.laws.lows_tell_all.Goals as goal

pub returns : goal.returns
returns c = record { law = lemmas.lows_whole }
