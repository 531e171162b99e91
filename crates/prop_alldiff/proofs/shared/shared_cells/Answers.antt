use Rattle.std.proofs.lemmas.List.{get_or_default}
use Rattle.prop_alldiff.proofs.Sharing.{next_cell}
use Rattle.prop_alldiff.proofs.shared.shared_cells.Goals as goal

pub cells-preserved : goal.cells-preserved
cells-preserved c =
    next_cell c.args.program.now c.args.operands.now.list.items c.args.cells.now c.cells.cell-index _ c.cells.shared.items c.put_if.new.list.items c.is_alone-alone.result c.cells-test.true
    (get_or_default c.args.cells.now c.cells.cell-index _ _ c.cells-test.true) c.is_alone-alone.ensures c.in_ok-put_if.ensures c.cells.invariant
