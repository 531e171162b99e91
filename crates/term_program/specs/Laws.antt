-- What holds of the problem that a program states.
use Rattle.box_problem.specs.BoxProblem.{Lawful}
use Rattle.box_problem.specs.Near.{IsNearBox}
use Rattle.term_program.specs.declared.program.Program.{Program}
use Rattle.term_program.specs.Programs.{IsMade}
use Rattle.term_program.specs.Stated.{box_problem_of}

-- a search may go by what closes a box of a program, whatever the box, the point and the value
abbrev pub ProgramsAreLawful : Type 0
ProgramsAreLawful = (program : Program) → IsMade program → Lawful (box_problem_of program)

-- the ends of the box of all points lie within 2^40
abbrev pub RootsAreNear : Type 0
RootsAreNear = (program : Program) → IsMade program → IsNearBox (box_problem_of program).root
