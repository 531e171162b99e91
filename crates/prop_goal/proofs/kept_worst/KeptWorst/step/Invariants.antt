use Rattle.std.proofs.Common.{take}
use Rattle.std.specs.List.{All}
use Rattle.prop_shave.specs.Opened.{IsOpen}
use Rattle.prop_goal.proofs.kept_worst.KeptWorst.step.Given as goal

abbrev pub invariant-cells : goal.invariant-cells
invariant-cells l = All (IsOpen l.probe) (take l.at l.watched.cells.items)
