use Rattle.lang_laws.proofs.Ascending as lemmas
use Rattle.lang_laws.proofs.laws.ranges_ascend.Goals as goal

pub returns : goal.returns
returns c = record { law = lemmas.ranges_ascend }
