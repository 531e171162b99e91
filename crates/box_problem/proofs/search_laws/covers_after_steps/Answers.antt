use Rattle.box_problem.proofs.Opens as lemmas
use Rattle.box_problem.proofs.search_laws.covers_after_steps.Goals as goal

pub returns : goal.returns
returns c = record { law = lemmas.covers_after_steps }
