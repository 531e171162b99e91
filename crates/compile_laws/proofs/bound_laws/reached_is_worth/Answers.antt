use Rattle.compile_laws.proofs.Lifted as lemmas
use Rattle.compile_laws.proofs.bound_laws.reached_is_worth.Goals as goal

pub returns : goal.returns
returns c = record { law = lemmas.reached_is_worth }
