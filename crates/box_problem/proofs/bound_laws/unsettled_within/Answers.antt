use Rattle.box_problem.proofs.Bounds as lemmas
use Rattle.box_problem.proofs.bound_laws.unsettled_within.Goals as goal

pub returns : goal.returns
returns c = record { law = lemmas.unsettled_within }
