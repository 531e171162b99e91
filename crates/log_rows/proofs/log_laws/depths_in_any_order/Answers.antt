use Rattle.log_rows.proofs.Logging as lemmas
use Rattle.log_rows.proofs.log_laws.depths_in_any_order.Goals as goal

pub returns : goal.returns
returns c = record { law = lemmas.depths_in_any_order }
