use Rattle.term_problem.proofs.Sizes as lemmas
use Rattle.term_problem.proofs.laws.goals_are_bounded.Goals as goal

pub returns : goal.returns
returns c = record { law = lemmas.goals_are_bounded }
