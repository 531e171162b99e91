use Rattle.std.proofs.Common.{◌≡◌, ◌<◌, ℕ, pos, length}
use Rattle.prop_goal.specs.KeptParts.{better_by}
use Rattle.prop_goal.proofs.kept_parts.KeptParts.clear.Given as goal

abbrev pub invariant-parts : goal.invariant-parts
invariant-parts l = record {
  cleared : (k : ℕ) → k < l.at → better_by l.self.ends.items k ≡ pos 0;
  atoms : l.self.atoms ≡ l.fn.self.atoms;
  outdated : l.self.outdated ≡ l.fn.self.outdated;
  room : length l.self.ends.items ≡ length l.fn.self.ends.items;
}
