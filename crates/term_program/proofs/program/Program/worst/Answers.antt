use Rattle.term_program.proofs.Goals.{worst_kept}
use Rattle.term_program.proofs.program.Program.worst.Goals as goal

pub returns-in-Some : goal.returns-in-Some
returns-in-Some c = worst_kept c.args.self.now c.in-Some.goal c.in-Some.is c.is_worst.result c.is_worst.ensures
