use Rattle.std.proofs.Common.{◌≡◌, ◌+◌, ◌++◌, ◌∷◌, ℕ, length, map, option_map, reverse}
use Rattle.box_problem.specs.Box.{Box}
use Rattle.open_nodes.specs.Remade.{Descends, HasLeft, split_numbers}
use Rattle.open_nodes.specs.Walks.{StandsAt, with_ups}
use Rattle.open_nodes.specs.Ways.{ups}
use Rattle.open_nodes.proofs.Remaking.{IsMeeting}
use Rattle.open_nodes.proofs.walk.BoxWalk.meet.Given as goal

abbrev pub invariant-up : goal.invariant-up
invariant-up l = record {
  at : (root : Box) (f : ℕ → Box) → StandsAt root f l.fn.self → StandsAt root f l.self;
  marks : length l.self.store.marks ≡ length l.self.here.items + 1;
  chain : l.split ∷ ups l.split ≡ map (λ r. r.now) l.down.items ++ with_ups (option_map (λ r. r.now) l.at);
  left : HasLeft (reverse l.fn.self.here.items) (reverse l.self.here.items);
  meeting : Descends (reverse l.fn.self.here.items) → Descends (split_numbers (l.split ∷ ups l.split))
      → IsMeeting (reverse l.fn.self.here.items) (reverse l.self.here.items) (map (λ r. r.now) l.down.items) (with_ups (option_map (λ r. r.now) l.at));
}
