use Rattle.std.proofs.Common.{take}
use Rattle.prop_alldiff.specs.Kinds.{AreOthersAlone}
use Rattle.prop_alldiff.proofs.shared.shared_cells.Given as goal

abbrev pub invariant-cells : goal.invariant-cells
invariant-cells l = AreOthersAlone l.program l.operands.list.items (take l.cell-index l.cells) l.shared.items
