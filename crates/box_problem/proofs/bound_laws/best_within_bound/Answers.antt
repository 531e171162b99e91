use Rattle.box_problem.proofs.Bounds as lemmas
use Rattle.box_problem.proofs.bound_laws.best_within_bound.Goals as goal

pub returns : goal.returns
returns c = record { law = lemmas.best_within_bound }
