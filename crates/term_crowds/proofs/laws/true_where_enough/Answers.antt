use Rattle.term_crowds.proofs.Truths as lemmas
use Rattle.term_crowds.proofs.laws.true_where_enough.Goals as goal

pub returns : goal.returns
returns c = record { law = lemmas.true_where_enough }
