use Rattle.box_problem.proofs.Boxes as lemmas
use Rattle.box_problem.proofs.box_laws.intervals_make_a_box.Goals as goal

pub returns : goal.returns
returns c = record { law = lemmas.intervals_make_a_box }
