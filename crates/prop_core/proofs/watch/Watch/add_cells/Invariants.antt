use Rattle.std.proofs.Common.{take}
use Rattle.prop_core.specs.Places.{AddsPlaces}
use Rattle.prop_core.proofs.watch.Watch.add_cells.Given as goal

abbrev pub invariant-cells : goal.invariant-cells
invariant-cells l = AddsPlaces l.fn.self l.self (take l.cell-index l.cells) l.at
