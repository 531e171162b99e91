use Rattle.std.proofs.Common.{drop, length}
use Rattle.term_math.specs.Shown.{box_in}
use Rattle.term_nodes.specs.Things.{things}
use Rattle.term_goals.specs.Goals.{Listed, atoms_ends}
use Rattle.term_goals.proofs.listing.add_atoms.Given as goal

abbrev pub invariant-loop-atom : goal.invariant-loop-atom
invariant-loop-atom l =
    Listed (box_in l.here.root) (things l.here.items.now) (length l.here.items.now) l.initial.list.items l.list.items
    (λ b. atoms_ends (box_in l.here.root) b (things l.here.items.now) (drop l.atom-index l.atoms))
    (λ b. atoms_ends (box_in l.here.root) b (things l.here.items.now) l.atoms)
