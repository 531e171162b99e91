use Rattle.box_problem.proofs.Nodes as lemmas
use Rattle.box_problem.proofs.open_laws.none_at_last.Goals as goal

pub returns : goal.returns
returns c = record { law = lemmas.none_at_last }
