use Rattle.term_program.specs.Programs.{IsListedTerm}
use Rattle.prop_shave.proofs.GoalMentioned.{number_at}
use Rattle.log_check.proofs.sums.part_lists.Goals as goal

pub term_cells-cells-requires-clause-listed : goal.term_cells-cells-requires-clause-listed
term_cells-cells-requires-clause-listed c = number_at (IsListedTerm c.args.program.now) c.args.atoms.now c.parts.at _ c.requires.listed c.parts-test.true
