use Rattle.std.proofs.Common.{take}
use Rattle.log_check.specs.KeptSums.{AreChanged}
use Rattle.log_check.proofs.changes.Changes.tell_all.Given as goal

abbrev pub invariant-cells : goal.invariant-cells
invariant-cells l = AreChanged (take l.cell-index l.cells) l.fn.self l.self
