use Rattle.term_language.proofs.Sharpening as lemmas
use Rattle.term_language.proofs.laws.intervals_narrow.Goals as goal

pub returns : goal.returns
returns c = record { law = lemmas.intervals_narrow }
