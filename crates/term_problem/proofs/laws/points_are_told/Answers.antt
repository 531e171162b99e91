use Rattle.term_problem.proofs.Points as lemmas
use Rattle.term_problem.proofs.laws.points_are_told.Goals as goal

pub returns : goal.returns
returns c = record { law = lemmas.points_are_told }
