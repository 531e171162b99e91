use Rattle.std.proofs.Common.{◌≡◌, ℕ, Bool, length, map}
use Rattle.prop_chance.specs.UpToDate.{AreListed, AreMentioning, IsUpToDate}
use Rattle.prop_chance.proofs.outdated.Outdated.let_told_wait.Given as goal

abbrev pub invariant-cells : goal.invariant-cells
invariant-cells g l = record {
  wait : (mentions : ℕ → ℕ → Bool) (number : ℕ) → AreMentioning mentions (length l.fn.self.waits.items) l.cells (map g.L.NumberList.numbers l.lists) → IsUpToDate mentions l.self number
      → IsUpToDate mentions l.fn.self number;
  listed : AreListed l.fn.self → AreListed l.self;
  count : length l.self.waits.items ≡ length l.fn.self.waits.items;
}

abbrev pub decreases-cells : goal.decreases-cells
decreases-cells g l = length l.self.told.items
