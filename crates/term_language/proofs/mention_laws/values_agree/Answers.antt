use Rattle.term_language.proofs.Points as lemmas
use Rattle.term_language.proofs.mention_laws.values_agree.Goals as goal

pub returns : goal.returns
returns c = record { law = lemmas.values_agree }
