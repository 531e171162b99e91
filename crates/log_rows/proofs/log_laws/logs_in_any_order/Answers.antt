use Rattle.log_rows.proofs.Logging as lemmas
use Rattle.log_rows.proofs.log_laws.logs_in_any_order.Goals as goal

pub returns : goal.returns
returns c = record { law = lemmas.logs_in_any_order }
