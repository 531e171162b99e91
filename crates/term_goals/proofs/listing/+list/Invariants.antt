use Rattle.std.proofs.Common.{◌≡◌, ◌+◌, ◌*◌, ◌<◌, ◌≤◌, ◌^◌, unsigned_abs, drop, length}
use Rattle.box_problem.specs.Box.{Box}
use Rattle.term_language.specs.Ends as ends
use Rattle.term_language.specs.Rules.{Near, atoms, sum_atoms}
use Rattle.term_language.specs.Sizes.{atoms_weight}
use Rattle.term_math.specs.Shown.{box_in}
use Rattle.term_nodes.specs.Things.{parts_at, term_at, things}
use Rattle.term_goals.specs.Goals.{Listed}
use Rattle.term_goals.proofs.listing.+list.Given as goal

abbrev pub decreases-add : goal.decreases-add
decreases-add l = 3 * l.id + 2

abbrev pub decreases-add-products : goal.decreases-add-products
decreases-add-products l = l.atom.term

abbrev pub decreases-add_bare : goal.decreases-add_bare
decreases-add_bare l = 3 * l.atom.now.term + 1

abbrev pub decreases-add_parts : goal.decreases-add_parts
decreases-add_parts l = 3 * l.limit

abbrev pub invariant-add-products : goal.invariant-add-products
invariant-add-products l = record {
  below : l.atom.term ≤ l.id;
  room : unsigned_abs l.atom.k * atoms_weight (box_in l.here.root) (term_at (things l.here.items.now) l.atom.term) < 2 ^ 127;
  sum : (b : Box) → ends.scaled l.atom.k (atoms Near (box_in l.here.root) b (term_at (things l.here.items.now) l.atom.term))
      ≡ ends.scaled l.times.value (atoms Near (box_in l.here.root) b (term_at (things l.here.items.now) l.id));
}

abbrev pub invariant-add_parts-loop-part : goal.invariant-add_parts-loop-part
invariant-add_parts-loop-part l =
    Listed (box_in l.here.root) (things l.here.items.now) (length l.here.items.now) l.initial.list.items l.list.items
    (λ b. ends.scaled l.times.value (sum_atoms Near (box_in l.here.root) b (parts_at (things l.here.items.now) (drop l.part-index l.parts))))
    (λ b. ends.scaled l.times.value (sum_atoms Near (box_in l.here.root) b (parts_at (things l.here.items.now) l.parts)))
