use Rattle.std.specs.Prelude.{length}
use Rattle.term_program.specs.Programs.{problem_in}
use Rattle.term_program.specs.Stated.{box_problem_of}
use Rattle.log_check.specs.Closing.{HardsOpen}
use Rattle.log_check.proofs.ends.any_hard_closing.Given as goal

abbrev pub invariant-instances : goal.invariant-instances
invariant-instances l = HardsOpen (box_problem_of l.program) l.store.box l.instance (length (problem_in l.program).weights)
