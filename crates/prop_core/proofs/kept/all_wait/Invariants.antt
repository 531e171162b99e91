use Rattle.std.proofs.Common.{◌≡◌, ℕ, true, length}
use Rattle.prop_core.specs.Watches.{waits_at}
use Rattle.prop_core.proofs.kept.all_wait.Given as goal

abbrev pub invariant-members : goal.invariant-members
invariant-members l = record {
  count : length l.waits.items ≡ l.counter;
  all : (k : ℕ) → waits_at l.waits.items k ≡ true;
}
