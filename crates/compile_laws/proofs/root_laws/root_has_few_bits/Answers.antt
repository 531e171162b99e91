use Rattle.compile_laws.proofs.Allowed as lemmas
use Rattle.compile_laws.proofs.root_laws.root_has_few_bits.Goals as goal

pub returns : goal.returns
returns c = record { law = lemmas.root_has_few_bits }
