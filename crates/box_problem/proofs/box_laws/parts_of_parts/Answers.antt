use Rattle.box_problem.proofs.Boxes as lemmas
use Rattle.box_problem.proofs.box_laws.parts_of_parts.Goals as goal

pub returns : goal.returns
returns c = record { law = lemmas.parts_of_parts }
