use Rattle.sopl_search.proofs.TreeLaws as lemmas
use Rattle.sopl_search.proofs.tree_laws.sides_are_ordered.Goals as goal

pub returns : goal.returns
returns c = record { law = lemmas.sides_are_ordered }
