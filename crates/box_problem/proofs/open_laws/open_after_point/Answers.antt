use Rattle.box_problem.proofs.Nodes as lemmas
use Rattle.box_problem.proofs.open_laws.open_after_point.Goals as goal

pub returns : goal.returns
returns c = record { law = lemmas.open_after_point }
