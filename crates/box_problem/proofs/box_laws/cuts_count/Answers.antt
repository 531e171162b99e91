use Rattle.box_problem.proofs.Counts as lemmas
use Rattle.box_problem.proofs.box_laws.cuts_count.Goals as goal

pub returns : goal.returns
returns c = record { law = lemmas.cuts_count }
