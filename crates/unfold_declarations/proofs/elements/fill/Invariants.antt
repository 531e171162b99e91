use Rattle.std.proofs.Common.{◌≡◌}
use Rattle.unfold_tables.specs.Tables.{elements_in}
use Rattle.unfold_constants.specs.Here.{known_in}
use Rattle.unfold_declarations.specs.Declaring as spec
use Rattle.unfold_declarations.specs.Places.{give_dimension, leave_dimension, remaining, turns_left}
use Rattle.unfold_declarations.specs.Shown.{dimensions_in, dimensions_open, prefix_in}
use Rattle.unfold_declarations.proofs.elements.fill.Given as goal

abbrev pub invariant-walk : goal.invariant-walk
invariant-walk l =
    remaining give_dimension leave_dimension (spec.inside (dimensions_in l.left.dimensions.now) l.e) (prefix_in l.walk.prefix) (dimensions_open l.walk) (elements_in l.found) l.count.counted
    ≡ spec.fill (known_in l.prefix.known) (dimensions_in l.left.dimensions.now) l.e l.prefix.index.items (elements_in l.fn.found) l.fn.count.counted

abbrev pub decreases-walk : goal.decreases-walk
decreases-walk l = turns_left (dimensions_in l.left.dimensions.now) (dimensions_open l.walk)
