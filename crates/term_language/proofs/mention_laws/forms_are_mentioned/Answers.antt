use Rattle.term_language.proofs.Forms as lemmas
use Rattle.term_language.proofs.mention_laws.forms_are_mentioned.Goals as goal

pub returns : goal.returns
returns c = record { law = lemmas.forms_are_mentioned }
