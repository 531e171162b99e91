use Rattle.sopl_scen.proofs.CellSteps.{next_bounded, placed_next, cells_few}
use Rattle.sopl_scen.proofs.cells.Cells.of.Goals as goal

pub decisions-preserved : goal.decisions-preserved
decisions-preserved c =
    placed_next c.args.stages.now c.args.most c.args.decisions.now c.decisions.cells.places.items c.add.new.self.places.items c.decisions.cells.total c.add.new.self.total
    c.decisions.decision-index c.decision-item.result c.decisions-test.true c.decision-item.is
    (c.requires.fewer c.decision-item.result.stage
    (next_bounded c.args.decisions.now c.decisions.decision-index c.decision-item.result c.decisions-test.true c.decision-item.is c.decisions.invariant.bounded).stage)
    c.in_ok-add.ensures.places c.in_ok-add.ensures.total c.decisions.invariant

pub add-requires-clause-few : goal.add-requires-clause-few
add-requires-clause-few c =
    cells_few c.args.stages.now c.args.most c.args.decisions.now c.decisions.cells.places.items c.decisions.cells.total c.decisions.decision-index c.decision-item.result
    c.decisions-test.true
    (c.requires.fewer c.decision-item.result.stage
    (next_bounded c.args.decisions.now c.decisions.decision-index c.decision-item.result c.decisions-test.true c.decision-item.is c.decisions.invariant.bounded).stage)
    c.requires.few c.decisions.invariant

pub add-requires-clause-from : goal.add-requires-clause-from
add-requires-clause-from c =
    (next_bounded c.args.decisions.now c.decisions.decision-index c.decision-item.result c.decisions-test.true c.decision-item.is c.decisions.invariant.bounded).stage.0

pub add-requires-clause-to : goal.add-requires-clause-to
add-requires-clause-to c =
    (next_bounded c.args.decisions.now c.decisions.decision-index c.decision-item.result c.decisions-test.true c.decision-item.is c.decisions.invariant.bounded).stage.1
