use Rattle.std.proofs.Common.{◌∙◌}
use Rattle.prop_chance.proofs.CellSets.{next_cell}
use Rattle.prop_chance.proofs.cell_sets.put.Goals as goal

pub cells-preserved : goal.cells-preserved
cells-preserved c =
    next_cell c.cells.set.keys c.insert.new.self.keys c.args.cells.now c.cells.cell-index _ c.cells-test.true c.in_ok-insert.ensures.keys ∙ c.cells.invariant
