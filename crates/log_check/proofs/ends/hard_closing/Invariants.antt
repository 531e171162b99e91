use Rattle.term_program.specs.Stated.{box_problem_of}
use Rattle.log_check.specs.Closing.{HardOpen}
use Rattle.log_check.proofs.ends.hard_closing.Given as goal

abbrev pub invariant-scenarios : goal.invariant-scenarios
invariant-scenarios l = HardOpen (box_problem_of l.program) l.store.box l.instance l.scenario
