use Rattle.answer_check.proofs.Ending as lemmas
use Rattle.answer_check.proofs.laws.checks_end_once.Goals as goal

pub returns : goal.returns
returns c = record { law = lemmas.checks_end_once c.readings_are_unique.ensures.law }
