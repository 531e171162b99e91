use Rattle.term_language.proofs.Agreement as lemmas
use Rattle.term_language.proofs.mention_laws.intervals_agree.Goals as goal

pub returns : goal.returns
returns c = record { law = lemmas.intervals_agree }
