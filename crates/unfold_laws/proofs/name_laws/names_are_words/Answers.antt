use Rattle.unfold_laws.proofs.Names.{names_are_words}
use Rattle.unfold_laws.proofs.name_laws.names_are_words.Goals as goal

pub returns : goal.returns
returns c = record { law = names_are_words }
