use Rattle.lang_laws.proofs.Satisfied as lemmas
use Rattle.lang_laws.proofs.laws.satisfied_is_worth.Goals as goal

pub returns : goal.returns
returns c = record { law = lemmas.satisfied_is_worth }
