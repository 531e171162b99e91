use Rattle.std.proofs.Common.{◌≡◌, ◌<◌, ℕ, true, length}
use Rattle.prop_core.specs.Watches.{waits_at}
use Rattle.prop_chance.proofs.outdated.Outdated.let_all_wait.Given as goal

abbrev pub invariant-things : goal.invariant-things
invariant-things l = record {
  all : (k : ℕ) → k < l.at → waits_at l.self.waits.items k ≡ true;
  count : length l.self.waits.items ≡ length l.fn.self.waits.items;
  told : l.self.told ≡ l.fn.self.told;
}
