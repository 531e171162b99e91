use Rattle.term_problem.proofs.Lawful as lemmas
use Rattle.term_problem.proofs.laws.problems_are_lawful.Goals as goal

pub returns : goal.returns
returns c = record { law = lemmas.problems_are_lawful }
