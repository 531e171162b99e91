use Rattle.std.proofs.Common.{◌<◌, ◌++◌, length, IsPermutation}
use Rattle.open_nodes.specs.Takes.{all_nodes, lists_of}
use Rattle.sopl_search.proofs.listing.all_taken.Given as goal

abbrev pub invariant-nodes : goal.invariant-nodes
invariant-nodes l = record {
  taken : IsPermutation (all_nodes (lists_of l.fn.seats)) (l.nodes.items ++ all_nodes (lists_of l.seats));
  exists : 0 < length l.seats.seats.items;
}

abbrev pub decreases-nodes : goal.decreases-nodes
decreases-nodes l = length (all_nodes (lists_of l.seats))
