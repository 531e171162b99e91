use Rattle.term_language.proofs.Soundness as lemmas
use Rattle.term_language.proofs.laws.marks_tell.Goals as goal

pub returns : goal.returns
returns c = record { law = lemmas.marks_tell }
