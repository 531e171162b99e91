use Rattle.std.proofs.Common.{◌≡◌, length}
use Rattle.prop_chance.specs.UpToDate.{AreListed, left_to_see}
use Rattle.prop_goal.specs.KeptEnds.{AreEndsSeen}
use Rattle.prop_goal.proofs.kept_ends.KeptEnds.renew_all.Given as goal

abbrev pub invariant-parts : goal.invariant-parts
invariant-parts l = record {
  seen : AreEndsSeen l.program l.store.box l.self;
  listed : AreListed l.self.parts.outdated;
  atoms : l.self.parts.atoms ≡ l.fn.self.parts.atoms;
  ends : length l.self.parts.ends.items ≡ length l.fn.self.parts.ends.items;
  waits : length l.self.parts.outdated.waits.items ≡ length l.fn.self.parts.outdated.waits.items;
  turns : l.self.turns ≡ l.fn.self.turns;
}

abbrev pub decreases-parts : goal.decreases-parts
decreases-parts l = left_to_see l.self.parts.outdated
