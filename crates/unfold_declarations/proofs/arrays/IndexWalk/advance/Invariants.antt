use Rattle.std.proofs.Common.{◌≡◌, vec_len}
use Rattle.unfold_constants.specs.Choosing.{advanced}
use Rattle.unfold_declarations.specs.Places.{give_dimension, leave_dimension}
use Rattle.unfold_declarations.specs.Shown.{dimensions_open, prefix_in}
use Rattle.unfold_declarations.proofs.arrays.IndexWalk.advance.Given as goal

abbrev pub invariant-kept : goal.invariant-kept
invariant-kept l =
    advanced give_dimension leave_dimension (prefix_in l.self.prefix) (dimensions_open l.self)
    ≡ advanced give_dimension leave_dimension (prefix_in l.initial.self.prefix) (dimensions_open l.initial.self)

abbrev pub decreases-kept : goal.decreases-kept
decreases-kept l = vec_len l.self.kept
