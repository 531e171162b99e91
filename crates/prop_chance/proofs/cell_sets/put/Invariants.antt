use Rattle.std.proofs.Common.{◌≡◌, drop}
use Rattle.term_cells.specs.Cells.{with_cells}
use Rattle.prop_chance.proofs.cell_sets.put.Given as goal

abbrev pub invariant-cells : goal.invariant-cells
invariant-cells l = with_cells l.set.keys (drop l.cell-index l.cells) ≡ with_cells l.fn.set.keys l.cells
