use Rattle.lang_laws.proofs.ScenarioLaws as lemmas
use Rattle.lang_laws.proofs.laws.scenarios_split.Goals as goal

pub returns : goal.returns
returns c = record { law = lemmas.scenarios_split }
