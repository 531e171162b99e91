use Rattle.answer_texts.proofs.Ended as lemmas
use Rattle.answer_texts.proofs.solved_laws.accepted_end_once.Goals as goal

pub returns : goal.returns
returns c = record { law = lemmas.accepted_end_once }
