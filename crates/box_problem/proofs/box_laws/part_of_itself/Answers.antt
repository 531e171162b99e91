use Rattle.box_problem.proofs.Boxes as lemmas
use Rattle.box_problem.proofs.box_laws.part_of_itself.Goals as goal

pub returns : goal.returns
returns c = record { law = lemmas.part_of_itself }
