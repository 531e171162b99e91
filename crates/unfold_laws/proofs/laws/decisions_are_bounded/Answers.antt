use Rattle.unfold_laws.proofs.Whole.{decisions_are_bounded}
use Rattle.unfold_laws.proofs.laws.decisions_are_bounded.Goals as goal

pub returns : goal.returns
returns c = record { law = decisions_are_bounded }
