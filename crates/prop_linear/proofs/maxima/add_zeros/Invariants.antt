use Rattle.std.proofs.Common.{◌≡◌, ◌+◌, ℕ, get_or, length}
use Rattle.prop_linear.proofs.maxima.add_zeros.Given as goal

abbrev pub invariant-nodes : goal.invariant-nodes
invariant-nodes l = record {
  zero : (k : ℕ) → get_or l.nodes.items k 0 ≡ 0;
  count : length l.nodes.items ≡ length l.fn.nodes.items + l.counter;
}
