use Rattle.sopl_search.proofs.TreeLaws as lemmas
use Rattle.sopl_search.proofs.tree_laws.high_half_never_alone.Goals as goal

pub returns : goal.returns
returns c = record { law = lemmas.high_half_never_alone }
