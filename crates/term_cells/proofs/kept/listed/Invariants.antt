use Rattle.std.proofs.Common.{◌≡◌, ◌++◌}
use Rattle.term_cells.proofs.kept.listed.Given as goal

abbrev pub invariant-cells : goal.invariant-cells
invariant-cells l = l.list.items ++ l.cell-iterator ≡ l.cells.keys
