use Rattle.std.proofs.Common.{arith}
use Rattle.prop_shave.proofs.Finding.{found_quiet}
use Rattle.prop_shave.proofs.Opening.{open_all, open_more}
use Rattle.prop_shave.proofs.probes.Probe.first_step.Goals as goal

pub cells-preserved : goal.cells-preserved
cells-preserved c =
    open_more c.args.self.now c.args.cells.now c.cells.cell-index _ c.cells.invariant c.cells-test.true c.in_default.ensures.none

pub returns-clause-none : goal.returns-clause-none
returns-clause-none c =
    found_quiet c.args.self.now c.args.cells.now c.requires.all c.requires.whole
    (open_all c.args.self.now c.args.cells.now c.cells.cell-index (omega (arith, c.cells-test.false)) c.cells.invariant)
