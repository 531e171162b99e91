use Rattle.compile_laws.proofs.Counted as lemmas
use Rattle.compile_laws.proofs.root_laws.bits_are_the_same.Goals as goal

pub returns : goal.returns
returns c = record { law = lemmas.bits_are_the_same }
