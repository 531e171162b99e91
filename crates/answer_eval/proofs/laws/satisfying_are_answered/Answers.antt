use Rattle.answer_eval.proofs.Ending as lemmas
use Rattle.answer_eval.proofs.laws.satisfying_are_answered.Goals as goal

pub returns : goal.returns
returns c = record { law = lemmas.satisfying_are_answered c.reports_are_one.ensures.law c.accepted_are_read.ensures.read }
