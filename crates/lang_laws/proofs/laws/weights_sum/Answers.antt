use Rattle.lang_laws.proofs.ScenarioLaws as lemmas
use Rattle.lang_laws.proofs.laws.weights_sum.Goals as goal

pub returns : goal.returns
returns c = record { law = lemmas.weights_sum }
