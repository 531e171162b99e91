use Rattle.unfold_laws.proofs.Passing.{parts_pass}
use Rattle.unfold_laws.proofs.laws.parts_pass.Goals as goal

pub returns : goal.returns
returns c = record { law = parts_pass }
