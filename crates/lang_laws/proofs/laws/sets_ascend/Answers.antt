use Rattle.lang_laws.proofs.Ascending as lemmas
use Rattle.lang_laws.proofs.laws.sets_ascend.Goals as goal

pub returns : goal.returns
returns c = record { law = lemmas.sets_ascend }
