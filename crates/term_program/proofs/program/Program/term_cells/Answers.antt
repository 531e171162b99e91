use Rattle.term_program.specs.Mentions.{term_lists}
use Rattle.term_program.specs.Programs.{root_in, things_in}
use Rattle.term_program.proofs.program.Program.term_cells.Goals as goal

pub returns : goal.returns
returns c = record { cells = c.of.ensures (term_lists (root_in c.args.self.now) (things_in c.args.self.now)) c.requires.made.mentioned.terms }
