use Rattle.sopl_search.proofs.listing.release_all.Given as goal

abbrev pub decreases-nodes : goal.decreases-nodes
decreases-nodes l = goal.left-nodes l
