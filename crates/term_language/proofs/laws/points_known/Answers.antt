use Rattle.term_language.proofs.OnPoints as lemmas
use Rattle.term_language.proofs.laws.points_known.Goals as goal

pub returns : goal.returns
returns c = record { law = lemmas.points_known }
