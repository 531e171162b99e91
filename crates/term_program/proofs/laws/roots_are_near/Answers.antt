use Rattle.term_program.proofs.Lawful as lemmas
use Rattle.term_program.proofs.laws.roots_are_near.Goals as goal

pub returns : goal.returns
returns c = record { law = lemmas.root_near }
