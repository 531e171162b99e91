use Rattle.box_problem.proofs.Cuts as lemmas
use Rattle.box_problem.proofs.box_laws.cuts_separate.Goals as goal

pub returns : goal.returns
returns c = record { law = lemmas.cuts_separate }
