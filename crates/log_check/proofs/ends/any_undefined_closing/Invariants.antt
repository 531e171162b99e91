use Rattle.term_program.specs.Stated.{box_problem_of}
use Rattle.log_check.specs.Closing.{DefinedOpen}
use Rattle.log_check.proofs.ends.any_undefined_closing.Given as goal

abbrev pub invariant-scenarios : goal.invariant-scenarios
invariant-scenarios l = DefinedOpen (box_problem_of l.program) l.store.box l.scenario
