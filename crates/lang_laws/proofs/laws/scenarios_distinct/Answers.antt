use Rattle.lang_laws.proofs.Distinct as lemmas
use Rattle.lang_laws.proofs.laws.scenarios_distinct.Goals as goal

pub returns : goal.returns
returns c = record { law = lemmas.scenarios_distinct }
