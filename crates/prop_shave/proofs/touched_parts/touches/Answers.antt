use Rattle.term_program.specs.Programs.{root_in, things_in}
use Rattle.prop_shave.proofs.GoalMentioned.{touched_is}
use Rattle.prop_shave.proofs.touched_parts.touches.Goals as goal

pub returns : goal.returns
returns c =
    touched_is (root_in c.args.program.now) (things_in c.args.program.now) c.args.cell c.args.atom.now c.term_cells.result.now c.has.result c.term_cells.ensures.cells c.has.ensures
