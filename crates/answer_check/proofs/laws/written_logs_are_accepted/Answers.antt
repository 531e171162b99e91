use Rattle.answer_check.proofs.Written as lemmas
use Rattle.answer_check.proofs.laws.written_logs_are_accepted.Goals as goal

pub returns : goal.returns
returns c = record { law = lemmas.written_logs_are_accepted c.readings_are_unique.ensures.law c.texts_are_read.ensures.law }
