use Rattle.lang_laws.proofs.Times as lemmas
use Rattle.lang_laws.proofs.laws.fit_at_each_time.Goals as goal

pub returns : goal.returns
returns c = record { law = lemmas.fit_at_each_time }
