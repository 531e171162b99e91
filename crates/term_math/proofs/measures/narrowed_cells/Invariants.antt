use Rattle.std.proofs.Common.{◌≡◌, map, take}
use Rattle.term_math.specs.Sums.{narrow}
use Rattle.term_math.proofs.measures.narrowed_cells.Given as goal

abbrev pub invariant-loop-coefficient : goal.invariant-loop-coefficient
invariant-loop-coefficient l = l.list.items ≡ map narrow (take l.coefficient-index l.cells)
