use Rattle.term_program.proofs.Lawful as lemmas
use Rattle.term_program.proofs.laws.lawful_of.Goals as goal

pub returns : goal.returns
returns c = record { law = lemmas.lawful_of }
