use Rattle.term_language.proofs.Soundness as lemmas
use Rattle.term_language.proofs.laws.values_lie.Goals as goal

pub returns : goal.returns
returns c = record { law = lemmas.values_lie }
