use Rattle.std.proofs.Common.{◌≡◌, length, take}
use Rattle.prop_core.specs.Waking.{AreWoken}
use Rattle.prop_chance.specs.UpToDate.{AreListed}
use Rattle.prop_chance.proofs.outdated.Outdated.let_each_wait.Given as goal

abbrev pub invariant-numbers : goal.invariant-numbers
invariant-numbers g l = record {
  woken : AreWoken (take l.at (g.L.NumberList.numbers l.list)) l.fn.self.waits.items l.self.waits.items;
  listed : AreListed l.fn.self → AreListed l.self;
  count : length l.self.waits.items ≡ length l.fn.self.waits.items;
  told : l.self.told ≡ l.fn.self.told;
}
