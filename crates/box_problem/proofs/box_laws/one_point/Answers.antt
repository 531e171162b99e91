use Rattle.box_problem.proofs.Boxes as lemmas
use Rattle.box_problem.proofs.box_laws.one_point.Goals as goal

pub returns : goal.returns
returns c = record { law = lemmas.one_point }
