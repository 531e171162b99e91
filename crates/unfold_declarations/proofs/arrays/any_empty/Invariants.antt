use Rattle.std.proofs.Common.{◌≡◌, drop}
use Rattle.unfold_declarations.specs.Places.{any_empty}
use Rattle.unfold_declarations.specs.Shown.{dimensions_in}
use Rattle.unfold_declarations.proofs.arrays.any_empty.Given as goal

abbrev pub invariant-dimensions : goal.invariant-dimensions
invariant-dimensions l = any_empty (dimensions_in (drop l.dimension-index l.dimensions)) ≡ any_empty (dimensions_in l.dimensions)
