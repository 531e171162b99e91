use Rattle.answer_check.proofs.Ending as lemmas
use Rattle.answer_check.proofs.laws.accepted_logs_are_answered.Goals as goal

pub returns : goal.returns
returns c = record { law = lemmas.accepted_logs_are_answered c.readings_are_unique.ensures.law }
