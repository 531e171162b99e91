use Rattle.compile_laws.proofs.Lifted as lemmas
use Rattle.compile_laws.proofs.bound_laws.bounds_hold.Goals as goal

pub returns : goal.returns
returns c = record { law = lemmas.bounds_hold }
