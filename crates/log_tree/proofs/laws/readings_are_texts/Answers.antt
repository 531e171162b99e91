use Rattle.log_tree.proofs.Texts as lemma
use Rattle.log_tree.proofs.laws.readings_are_texts.Goals as goal

pub returns : goal.returns
returns c = record { law = lemma.readings_are_texts }
