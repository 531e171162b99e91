use Rattle.std.proofs.Common.{◌≡◌, ◌<◌, ℕ, None, get_or, length, take}
use Rattle.std.specs.List.{Contains}
use Rattle.prop_chance.specs.KeptTurns.{AreFewer, turns_of}
use Rattle.prop_chance.proofs.kept_turns.KeptTurns.forget.Given as goal

abbrev pub invariant-list : goal.invariant-list
invariant-list l = record {
  forgotten : (place : ℕ) → place < length l.cells → Contains (take l.cell-index l.list) (get_or l.cells place 0) → turns_of l.self place ≡ None;
  fewer : AreFewer l.fn.self l.self;
  room : length l.self.known.items ≡ length l.fn.self.known.items;
}
