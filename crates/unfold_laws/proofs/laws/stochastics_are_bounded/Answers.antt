use Rattle.unfold_laws.proofs.Whole.{stochastics_are_bounded}
use Rattle.unfold_laws.proofs.laws.stochastics_are_bounded.Goals as goal

pub returns : goal.returns
returns c = record { law = stochastics_are_bounded }
