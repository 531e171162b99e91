use Rattle.box_problem.proofs.Steps as lemmas
use Rattle.box_problem.proofs.search_laws.consistent_point.Goals as goal

pub returns : goal.returns
returns c = record { law = lemmas.consistent_point }
