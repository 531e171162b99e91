use Rattle.term_crowds.proofs.Truths as lemmas
use Rattle.term_crowds.proofs.laws.false_by_crowds.Goals as goal

pub returns : goal.returns
returns c = record { law = lemmas.false_by_crowds }
