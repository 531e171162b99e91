use Rattle.unfold_laws.proofs.Outcomes.{stochastics_have_outcomes}
use Rattle.unfold_laws.proofs.laws.stochastics_have_outcomes.Goals as goal

pub returns : goal.returns
returns c = record { law = stochastics_have_outcomes }
