use Rattle.log_tree.proofs.OnlyReading as lemma
use Rattle.log_tree.proofs.laws.readings_are_unique.Goals as goal

pub returns : goal.returns
returns c = record { law = lemma.readings_are_unique }
