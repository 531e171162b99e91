use Rattle.std.proofs.Common.{◌≡◌, ◌<◌, ℕ, length, get_or}
use Rattle.log_check.specs.declared.seen_sum.SeenSum.{SeenSum}
use Rattle.log_check.proofs.sums.Sums.forget.Given as goal

abbrev pub invariant-instances : goal.invariant-instances
invariant-instances l = record {
  none : (instance : ℕ) (d : SeenSum) → instance < l.at → instance < length l.self.weights.items → (get_or l.self.weights.items instance d).seen ≡ 0;
  changes : l.self.changes ≡ l.fn.self.changes;
}
