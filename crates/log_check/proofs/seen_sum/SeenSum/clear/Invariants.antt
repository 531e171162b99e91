use Rattle.std.proofs.Common.{◌≡◌, ◌<◌, ℕ, pos, length}
use Rattle.log_check.specs.KeptSums.{part_kept}
use Rattle.log_check.proofs.seen_sum.SeenSum.clear.Given as goal

abbrev pub invariant-places : goal.invariant-places
invariant-places l = record {
  cleared : (part : ℕ) → part < l.at → part_kept l.self part ≡ pos 0;
  lists : l.self.lists ≡ l.fn.self.lists;
  seen : l.self.seen ≡ l.fn.self.seen;
  count : length l.self.parts.items ≡ length l.fn.self.parts.items;
}
