use Rattle.prop_core.proofs.Listed.{more_added}
use Rattle.prop_core.proofs.watch.Watch.add_cells.Goals as goal

pub cells-preserved : goal.cells-preserved
cells-preserved c =
    more_added c.args.self.now c.cells.self c.add.new.self c.args.cells.now c.cells.cell-index c.args.at c.cells-test.true c.cells.invariant c.in_ok-add.ensures
