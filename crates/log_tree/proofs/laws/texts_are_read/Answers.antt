use Rattle.log_tree.proofs.Texts as lemma
use Rattle.log_tree.proofs.laws.texts_are_read.Goals as goal

pub returns : goal.returns
returns c = record { law = lemma.texts_are_read }
