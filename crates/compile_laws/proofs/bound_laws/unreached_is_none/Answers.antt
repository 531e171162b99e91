use Rattle.compile_laws.proofs.Lifted as lemmas
use Rattle.compile_laws.proofs.bound_laws.unreached_is_none.Goals as goal

pub returns : goal.returns
returns c = record { law = lemmas.unreached_is_none }
