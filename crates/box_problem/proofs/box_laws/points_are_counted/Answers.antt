use Rattle.box_problem.proofs.Points as lemmas
use Rattle.box_problem.proofs.box_laws.points_are_counted.Goals as goal

pub returns : goal.returns
returns c = record { law = lemmas.points_are_counted }
