use Rattle.compile_laws.proofs.Lifted as lemmas
use Rattle.compile_laws.proofs.bound_laws.unbeaten_is_best.Goals as goal

pub returns : goal.returns
returns c = record { law = lemmas.unbeaten_is_best }
