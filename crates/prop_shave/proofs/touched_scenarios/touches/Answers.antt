use Rattle.term_program.specs.Programs.{problem_in, root_in}
use Rattle.prop_shave.proofs.ChanceMentioned.{touched_is}
use Rattle.prop_shave.proofs.touched_scenarios.touches.Goals as goal

pub returns : goal.returns
returns c =
    touched_is (root_in c.args.program.now) (problem_in c.args.program.now) c.args.instance c.args.scenario c.args.cell _ c.cells_of.result.now c.has.result c.chance.ensures.condition
    c.cells_of.ensures.cells c.has.ensures
