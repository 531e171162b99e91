use Rattle.term_problem.proofs.Worth as lemmas
use Rattle.term_problem.proofs.laws.points_have_values.Goals as goal

pub returns : goal.returns
returns c = record { law = lemmas.points_have_values }
