use Rattle.box_problem.proofs.Steps as lemmas
use Rattle.box_problem.proofs.search_laws.steps_lead_inside.Goals as goal

pub returns : goal.returns
returns c = record { law = lemmas.steps_lead_inside }
