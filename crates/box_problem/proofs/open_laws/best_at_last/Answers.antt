use Rattle.box_problem.proofs.Nodes as lemmas
use Rattle.box_problem.proofs.open_laws.best_at_last.Goals as goal

pub returns : goal.returns
returns c = record { law = lemmas.best_at_last }
