use Rattle.std.proofs.Common.{◌≡◌, drop}
use Rattle.term_language.specs.Sizes as sizes
use Rattle.term_math.specs.Shown.{box_in}
use Rattle.term_math.specs.Sums.{wide_cells}
use Rattle.term_math.proofs.measures.cells_weight.Given as goal

abbrev pub invariant-loop-i : goal.invariant-loop-i
invariant-loop-i l = l.sum ≡ sizes.cells_weight (box_in l.root) (wide_cells (drop l.i l.cells))
