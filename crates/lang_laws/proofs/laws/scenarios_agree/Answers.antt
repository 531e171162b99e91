use Rattle.lang_laws.proofs.ScenarioLaws as lemmas
use Rattle.lang_laws.proofs.laws.scenarios_agree.Goals as goal

pub returns : goal.returns
returns c = record { law = lemmas.scenarios_agree }
