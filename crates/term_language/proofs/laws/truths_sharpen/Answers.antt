use Rattle.term_language.proofs.Sharpening as lemmas
use Rattle.term_language.proofs.laws.truths_sharpen.Goals as goal

pub returns : goal.returns
returns c = record { law = lemmas.truths_sharpen }
