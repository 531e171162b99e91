use Rattle.std.proofs.Common.{◌≡◌, [], drop}
use Rattle.unfold_constants.specs.Here.{known_in}
use Rattle.unfold_declarations.specs.Declaring as spec
use Rattle.unfold_declarations.specs.Shown.{dimensions_in}
use Rattle.unfold_declarations.proofs.arrays.listed_dimensions.Given as goal

abbrev pub invariant-dims : goal.invariant-dims
invariant-dims l =
    spec.dimensions (known_in l.known) (dimensions_in l.found.items) (drop l.dim-index l.dims) l.count.counted
    ≡ spec.dimensions (known_in l.known) [] l.dims l.fn.count.counted
