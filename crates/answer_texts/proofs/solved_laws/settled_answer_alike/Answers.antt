use Rattle.answer_texts.proofs.Alike as lemmas
use Rattle.answer_texts.proofs.solved_laws.settled_answer_alike.Goals as goal

pub returns : goal.returns
returns c = record { law = lemmas.settled_answer_alike }
