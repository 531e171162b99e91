use Rattle.std.proofs.Common.{◌∙◌, arith}
use Rattle.prop_shave.proofs.Opening.{open_all, open_more}
use Rattle.prop_operands.proofs.questions.step_among.Goals as goal

pub cells-preserved : goal.cells-preserved
cells-preserved g c = record {
  opened = open_more c.args.probe.now c.args.cells.now c.cells.cell-index _ c.cells.invariant.opened c.cells-test.true c.in_default.ensures.none;
  looked = c.step_at.ensures.looked;
  list = c.step_at.ensures.list ∙ c.cells.invariant.list;
  room = λ count has. c.step_at.ensures.room count (c.cells.invariant.room count has);
}

pub returns-clause-none : goal.returns-clause-none
returns-clause-none g c =
    open_all c.args.probe.now c.args.cells.now c.cells.cell-index (omega (arith, c.cells-test.false)) c.cells.invariant.opened
