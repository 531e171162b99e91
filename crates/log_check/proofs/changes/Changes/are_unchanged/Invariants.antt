use Rattle.std.proofs.Common.{take}
use Rattle.log_check.specs.KeptSums.{AreUnchanged}
use Rattle.log_check.proofs.changes.Changes.are_unchanged.Given as goal

abbrev pub invariant-cells : goal.invariant-cells
invariant-cells l = AreUnchanged l.self l.time (take l.cell-index l.cells)
