use Rattle.std.proofs.Common.{pos, get_or}
use Rattle.std.proofs.lemmas.List.{get_or_default}
use Rattle.term_math.specs.declared.combinations.WideCoefficient.{WideCoefficient}
use Rattle.term_math.proofs.Weighing.{small_at}
use Rattle.term_math.proofs.measures.narrowed_cells.Goals as goal

pub narrowed-requires : goal.narrowed-requires
narrowed-requires c =
    let none : WideCoefficient = record { cell = 0; k = pos 0 } in
    let here : WideCoefficient = get_or c.args.cells.now c.loop-coefficient.coefficient-index none in
    record {
      small = small_at c.args.cells.now c.loop-coefficient.coefficient-index here c.requires.small c.loop-coefficient-test.true
          (get_or_default c.args.cells.now c.loop-coefficient.coefficient-index none here c.loop-coefficient-test.true);
    }
