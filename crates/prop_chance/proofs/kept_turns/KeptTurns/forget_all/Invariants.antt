use Rattle.std.proofs.Common.{◌≡◌, ◌<◌, ℕ, None, length}
use Rattle.prop_chance.specs.KeptTurns.{turns_of}
use Rattle.prop_chance.proofs.kept_turns.KeptTurns.forget_all.Given as goal

abbrev pub invariant-cells : goal.invariant-cells
invariant-cells l = record {
  none : (place : ℕ) → place < l.at → turns_of l.self place ≡ None;
  room : length l.self.known.items ≡ length l.fn.self.known.items;
}
