use Rattle.scen_laws.proofs.Stages.{stochastics_ascend}
use Rattle.scen_laws.proofs.laws.stochastics_ascend.Goals as goal

pub returns : goal.returns
returns c = record { law = stochastics_ascend }
