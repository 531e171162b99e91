use Rattle.prop_core.specs.Alike.{stays_quiet}
use Rattle.prop_core.proofs.laws.rests_alike.Goals as goal

pub returns : goal.returns
returns c = record { law = stays_quiet }
