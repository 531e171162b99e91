use Rattle.term_language.proofs.Sharpening as lemmas
use Rattle.term_language.proofs.laws.marks_sharpen.Goals as goal

pub returns : goal.returns
returns c = record { law = lemmas.marks_sharpen }
