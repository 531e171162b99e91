use Rattle.std.proofs.Common.{◌≡◌, ◌+◌, ℕ, length, reverse}
use Rattle.box_problem.specs.Box.{Box}
use Rattle.open_nodes.specs.Remade.{GoesBack}
use Rattle.open_nodes.specs.Walks.{StandsAt}
use Rattle.open_nodes.proofs.walk.BoxWalk.back_to.Given as goal

abbrev pub invariant-splits : goal.invariant-splits
invariant-splits l = record {
  at : (root : Box) (f : ℕ → Box) → StandsAt root f l.fn.self → StandsAt root f l.self;
  marks : length l.self.store.marks ≡ length l.self.here.items + 1;
  back : GoesBack l.node (reverse l.fn.self.here.items) (reverse l.self.here.items);
}

abbrev pub decreases-splits : goal.decreases-splits
decreases-splits l = length l.self.here.items
