use Rattle.answer_eval.proofs.Ending as lemmas
use Rattle.answer_eval.proofs.laws.evals_end_once.Goals as goal

pub returns : goal.returns
returns c = record { law = lemmas.evals_end_once c.reports_are_one.ensures.law }
