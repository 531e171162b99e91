use Rattle.box_problem.proofs.Opens as lemmas
use Rattle.box_problem.proofs.search_laws.counts_leave.Goals as goal

pub returns : goal.returns
returns c = record { law = lemmas.counts_leave }
