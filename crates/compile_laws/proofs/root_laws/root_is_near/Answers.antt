use Rattle.compile_laws.proofs.Near as lemmas
use Rattle.compile_laws.proofs.root_laws.root_is_near.Goals as goal

pub returns : goal.returns
returns c = record { law = lemmas.root_is_near }
