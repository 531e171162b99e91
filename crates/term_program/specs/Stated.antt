-- The problem that a program states.
use Rattle.box_problem.specs.BoxProblem.{BoxProblem}
use Rattle.term_problem.specs.Search.{problem_over}
use Rattle.term_program.specs.declared.program.Program.{Program}
use Rattle.term_program.specs.Programs.{problem_in, root_in}

unfoldable pub box_problem_of : Program → BoxProblem
box_problem_of program = problem_over (root_in program) (problem_in program)
