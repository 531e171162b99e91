use Rattle.scen_laws.proofs.Counts.{counts_multiply}
use Rattle.scen_laws.proofs.laws.counts_multiply.Goals as goal

pub returns : goal.returns
returns c = record { law = counts_multiply }
