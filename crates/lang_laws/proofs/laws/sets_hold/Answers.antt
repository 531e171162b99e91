use Rattle.lang_laws.proofs.Holding as lemmas
use Rattle.lang_laws.proofs.laws.sets_hold.Goals as goal

pub returns : goal.returns
returns c = record { law = lemmas.sets_hold }
