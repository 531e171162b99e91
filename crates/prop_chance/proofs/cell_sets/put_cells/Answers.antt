use Rattle.prop_chance.proofs.CellSets.{has_new, has_old, has_only}
use Rattle.prop_chance.proofs.cell_sets.put_cells.Goals as goal

pub returns-clause-kept : goal.returns-clause-kept
returns-clause-kept c = has_old c.args.set.now.keys c.put.new.set.keys c.args.cells.now c.in_ok-put.ensures

pub returns-clause-put : goal.returns-clause-put
returns-clause-put c = has_new c.args.set.now.keys c.put.new.set.keys c.args.cells.now c.in_ok-put.ensures

pub returns-clause-only : goal.returns-clause-only
returns-clause-only c = has_only c.args.set.now.keys c.put.new.set.keys c.args.cells.now c.in_ok-put.ensures
