use Rattle.std.proofs.Common.{◌≡◌}
use Rattle.unfold_constants.specs.Here.{known_in}
use Rattle.unfold_declarations.specs.Places.{give_dimension, leave_dimension, remaining, turns_left}
use Rattle.unfold_declarations.specs.Shown.{dimensions_in, dimensions_open, prefix_in}
use Rattle.unfold_variables.specs.Listing as spec
use Rattle.unfold_variables.proofs.arrays.listed.Given as goal

abbrev pub invariant-walk : goal.invariant-walk
invariant-walk g l =
    remaining give_dimension leave_dimension (spec.inside (g.E.Element.step l.element) (dimensions_in l.left)) (prefix_in l.walk.prefix) (dimensions_open l.walk) l.found.items l.count.counted
    ≡ spec.listed (g.E.Element.step l.element) (known_in l.prefix.known) (dimensions_in l.left) l.prefix.index.items l.fn.found.items l.fn.count.counted

abbrev pub decreases-walk : goal.decreases-walk
decreases-walk g l = turns_left (dimensions_in l.left) (dimensions_open l.walk)
