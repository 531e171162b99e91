use Rattle.term_program.proofs.Goals.{direction_kept}
use Rattle.term_program.proofs.program.Program.direction.Goals as goal

pub returns-in-Some : goal.returns-in-Some
returns-in-Some c = direction_kept c.args.self.now c.in-Some.goal c.in-Some.is c.direction.result c.direction.ensures
