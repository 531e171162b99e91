use Rattle.std.proofs.Common.{rules}
use Rattle.log_check.proofs.Changing.{changed_all, changed_more}
use Rattle.log_check.proofs.changes.Changes.tell_all.Goals as goal

pub cells-preserved : goal.cells-preserved
cells-preserved c = changed_more c.args.cells.now c.cells.cell-index c.args.self.now c.cells.self c.tell.new.self c.cells-test.true c.cells.invariant c.tell.ensures.changed

pub returns : goal.returns
returns c = record { changed = changed_all c.args.cells.now c.cells.cell-index c.args.self.now c.cells.self (search rules) c.cells.invariant }
