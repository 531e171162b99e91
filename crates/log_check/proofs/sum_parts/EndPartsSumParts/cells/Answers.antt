use Rattle.term_program.specs.Programs.{IsListedTerm}
use Rattle.prop_shave.proofs.GoalMentioned.{number_at}
use Rattle.log_check.proofs.Keeping.{part_listed}
use Rattle.log_check.proofs.sum_parts.EndPartsSumParts.cells.Goals as goal

pub term_cells-requires-clause-listed : goal.term_cells-requires-clause-listed
term_cells-requires-clause-listed c = number_at (IsListedTerm c.args.self.now.program.now) c.args.self.now.atoms.now c.args.at _ c.requires.asked.are.listed c.requires.exists

pub returns : goal.returns
returns c = part_listed c.args.self.now.program.now c.args.self.now.atoms.now c.args.at _ c.term_cells.result.now c.requires.exists c.term_cells.ensures.cells
