use Rattle.std.proofs.Common.{◌≡◌, drop}
use Rattle.term_language.specs.Forms.{cells_ends}
use Rattle.term_math.specs.Shown.{box_in}
use Rattle.term_math.specs.Sums.{wide_cells}
use Rattle.term_goals.specs.Wide.{wide_ends}
use Rattle.term_goals.proofs.sums.cells_ends.Given as goal

abbrev pub invariant-loop-i : goal.invariant-loop-i
invariant-loop-i l = wide_ends l.sum ≡ cells_ends (box_in l.here.view) (wide_cells (drop l.i l.cells))
