use Rattle.std.proofs.Common.{pos, arith}
use Rattle.term_math.specs.declared.combinations.WideCoefficient.{WideCoefficient}
use Rattle.term_math.specs.Shown.{box_in}
use Rattle.term_math.proofs.Weighing.{times_back, sum_back}
use Rattle.term_math.proofs.measures.cells_weight.Goals as goal

pub weight_at-times-requires : goal.weight_at-times-requires
weight_at-times-requires c =
    let none : WideCoefficient = record { cell = 0; k = pos 0 } in
    record { room = times_back (box_in c.args.root.now) c.args.cells.now c.loop-i.i none c.requires.room c.loop-i-test.true c.loop-i.auto.i }

pub overflow_add-sum : goal.overflow_add-sum
overflow_add-sum c =
    let none : WideCoefficient = record { cell = 0; k = pos 0 } in
    let room = sum_back (box_in c.args.root.now) c.args.cells.now c.loop-i.i none c.loop-i.sum c.weight_at-times.result c.requires.room c.loop-i-test.true c.loop-i.auto.i c.loop-i.invariant
    c.weight_at-times.ensures in
    record { fits = omega (arith, room) }
