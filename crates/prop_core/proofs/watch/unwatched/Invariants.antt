use Rattle.std.proofs.Common.{◌≡◌, length}
use Rattle.prop_core.proofs.Listed.{AreEmpty}
use Rattle.prop_core.proofs.watch.unwatched.Given as goal

abbrev pub invariant-cells : goal.invariant-cells
invariant-cells l = record {
  count : length l.lists.items ≡ l.counter;
  empty : AreEmpty l.lists.items;
}
