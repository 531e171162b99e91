use Rattle.parse_laws.proofs.RefusalOnce.{one_refusal}
use Rattle.parse_laws.proofs.refusal_laws.one_refusal.Goals as goal

pub returns : goal.returns
returns c = record { law = one_refusal }
