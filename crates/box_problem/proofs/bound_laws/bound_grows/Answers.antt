use Rattle.box_problem.proofs.Bounds as lemmas
use Rattle.box_problem.proofs.bound_laws.bound_grows.Goals as goal

pub returns : goal.returns
returns c = record { law = lemmas.bound_grows }
