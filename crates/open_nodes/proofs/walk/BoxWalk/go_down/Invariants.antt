use Rattle.std.proofs.Common.{◌≡◌, ◌++◌, ℕ, length, map, reverse}
use Rattle.box_problem.specs.Box.{Box}
use Rattle.open_nodes.specs.Remade.{cells_along, split_numbers}
use Rattle.open_nodes.specs.Walks.{IsGoing}
use Rattle.open_nodes.proofs.walk.BoxWalk.go_down.Given as goal

abbrev pub invariant-splits : goal.invariant-splits
invariant-splits l = record {
  going : (root : Box) (f : ℕ → Box) → IsGoing root f l.fn.self (map (λ r. r.now) l.fn.downs.items) l.split → IsGoing root f l.self (map (λ r. r.now) l.downs.items) l.split;
  some : (root : Box) × (f : ℕ → Box) × IsGoing root f l.self (map (λ r. r.now) l.downs.items) l.split;
  here : split_numbers (map (λ r. r.now) l.downs.items) ++ reverse l.self.here.items
      ≡ split_numbers (map (λ r. r.now) l.fn.downs.items) ++ reverse l.fn.self.here.items;
  listed : l.remade.items ++ cells_along (map (λ r. r.now) l.downs.items) ≡ l.fn.remade.items ++ cells_along (map (λ r. r.now) l.fn.downs.items);
}

abbrev pub decreases-splits : goal.decreases-splits
decreases-splits l = length l.downs.items
