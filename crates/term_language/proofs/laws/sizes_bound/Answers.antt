use Rattle.term_language.proofs.Bounds as lemmas
use Rattle.term_language.proofs.laws.sizes_bound.Goals as goal

pub returns : goal.returns
returns c = record { law = lemmas.sizes_bound }
