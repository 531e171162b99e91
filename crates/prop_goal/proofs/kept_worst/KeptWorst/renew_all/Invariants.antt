use Rattle.std.proofs.Common.{◌≡◌, length}
use Rattle.prop_chance.specs.UpToDate.{AreListed, left_to_see}
use Rattle.prop_goal.specs.KeptParts.{ArePartsSeen}
use Rattle.prop_goal.proofs.kept_worst.KeptWorst.renew_all.Given as goal

abbrev pub invariant-scenarios : goal.invariant-scenarios
invariant-scenarios l = record {
  seen : ArePartsSeen l.program l.store.box l.self.parts;
  listed : AreListed l.self.parts.outdated;
  atoms : l.self.parts.atoms ≡ l.fn.self.parts.atoms;
  ends : length l.self.parts.ends.items ≡ length l.fn.self.parts.ends.items;
  waits : length l.self.parts.outdated.waits.items ≡ length l.fn.self.parts.outdated.waits.items;
}

abbrev pub decreases-scenarios : goal.decreases-scenarios
decreases-scenarios l = left_to_see l.self.parts.outdated
