use Rattle.box_problem.proofs.Steps as lemmas
use Rattle.box_problem.proofs.search_laws.beats_earlier.Goals as goal

pub returns : goal.returns
returns c = record { law = lemmas.beats_earlier }
