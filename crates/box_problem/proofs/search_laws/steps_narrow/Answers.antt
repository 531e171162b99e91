use Rattle.box_problem.proofs.Steps as lemmas
use Rattle.box_problem.proofs.search_laws.steps_narrow.Goals as goal

pub returns : goal.returns
returns c = record { law = lemmas.steps_narrow }
