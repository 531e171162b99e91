use Rattle.compile_laws.proofs.Counted as lemmas
use Rattle.compile_laws.proofs.root_laws.digits_are_the_same.Goals as goal

pub returns : goal.returns
returns c = record { law = lemmas.digits_are_the_same }
