use Rattle.std.proofs.Common.{rules}
use Rattle.std.proofs.lemmas.List.Sorted.{IsNonDecreasingBy-from_sort_by_key, IsPermutation-trans}
use Rattle.sopl_search.specs.Lines.{order_key}
use Rattle.sopl_search.proofs.listing.taken_in_order.Goals as goal

pub returns : goal.returns
returns c = record {
  nodes = IsPermutation-trans _ _ _ c.in_ok-nodes.ensures.nodes c.in_ok-sort_by_key.ensures.permutation;
  in_order = IsNonDecreasingBy-from_sort_by_key order_key _ c.in_ok-sort_by_key.ensures.sorted (λ a r q k. search rules);
}
