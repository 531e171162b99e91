use Rattle.std.proofs.Common.{pos}
use Rattle.term_math.specs.declared.combinations.WideCoefficient.{WideCoefficient}
use Rattle.term_goals.specs.Wide.{wide_ends}
use Rattle.term_goals.proofs.Steps.{times_cell_fit, cells_fit}
use Rattle.term_goals.proofs.sums.cells_ends.Goals as goal

pub times_cell-times-requires : goal.times_cell-times-requires
times_cell-times-requires c =
    let none : WideCoefficient = record { cell = 0; k = pos 0 } in
    record { fits = times_cell_fit c.args.here.now c.args.cells.now c.loop-i.i none c.requires.ready c.requires.room c.loop-i-test.true c.loop-i.auto.i }

pub plus-sum-requires : goal.plus-sum-requires
plus-sum-requires c =
    let none : WideCoefficient = record { cell = 0; k = pos 0 } in
    record {
      fits = cells_fit c.args.here.now c.args.cells.now c.loop-i.i none (wide_ends c.times_cell-times.result) (wide_ends c.loop-i.sum) c.requires.ready c.requires.room c.loop-i-test.true
          c.loop-i.auto.i c.times_cell-times.ensures c.loop-i.invariant;
    }
