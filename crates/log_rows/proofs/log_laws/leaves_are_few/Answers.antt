use Rattle.log_rows.proofs.Small as lemmas
use Rattle.log_rows.proofs.log_laws.leaves_are_few.Goals as goal

pub returns : goal.returns
returns c = record { law = lemmas.leaves_are_few }
