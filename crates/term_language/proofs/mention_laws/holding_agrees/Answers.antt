use Rattle.term_language.proofs.Points as lemmas
use Rattle.term_language.proofs.mention_laws.holding_agrees.Goals as goal

pub returns : goal.returns
returns c = record { law = lemmas.holding_agrees }
