use Rattle.std.proofs.Common.{take}
use Rattle.std.specs.List.{All}
use Rattle.prop_shave.specs.Opened.{IsOpen}
use Rattle.prop_shave.proofs.probes.Probe.first_step.Given as goal

abbrev pub invariant-cells : goal.invariant-cells
invariant-cells l = All (IsOpen l.self) (take l.cell-index l.cells)
