use Rattle.box_problem.proofs.Nodes as lemmas
use Rattle.box_problem.proofs.open_laws.point_is_reached.Goals as goal

pub returns : goal.returns
returns c = record { law = lemmas.point_is_reached }
