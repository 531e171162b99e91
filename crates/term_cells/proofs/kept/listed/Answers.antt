use Rattle.term_cells.proofs.Inserting.{ascending, all_listed}
use Rattle.term_cells.proofs.kept.listed.Goals as goal

pub returns-clause-ascending : goal.returns-clause-ascending
returns-clause-ascending c =
    ascending c.cells.list.items c.args.cells.now.keys (all_listed c.cells.list.items c.cells.cell-iterator c.args.cells.now.keys c.cells.invariant (c.in-None.ensures.steps.0)) c.len.ensures.ordered
