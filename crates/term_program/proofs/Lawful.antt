-- A program states a lawful problem.
use Rattle.std.proofs.Common.{◌≡◌, ℤ}
use Rattle.sopl_base.specs.declared.direction.Direction.{Direction}
use Rattle.box_problem.specs.Box.{Box, Inside}
use Rattle.box_problem.specs.BoxProblem.{Lawful}
use Rattle.box_problem.specs.Near.{IsNearBox}
use Rattle.term_problem.proofs.Lawful.{problems_are_lawful}
use Rattle.term_problem.specs.Objective.{better_end, goal_ends}
use Rattle.term_problem.specs.Problems.{direction_in}
use Rattle.term_program.specs.declared.program.Program.{Program}
use Rattle.term_program.specs.Programs.{IsMade, problem_in, root_in}
use Rattle.term_program.specs.Stated.{box_problem_of}

-- the problem's root, its direction and its ends are the program's
pub inside_root : (program : Program) (b : Box) → Inside b (box_problem_of program).root → Inside b (root_in program)
unfolding box_problem_of
inside_root program b inside = inside

pub root_is : (program : Program) (b : Box) → b ≡ root_in program → b ≡ (box_problem_of program).root
unfolding box_problem_of
root_is program b is = is

pub direction_is : (program : Program) (direction : Direction) → direction ≡ direction_in (problem_in program) → direction ≡ (box_problem_of program).direction
unfolding box_problem_of
direction_is program direction is = is

pub end_is : (program : Program) (b : Box) (end : ℤ) → end ≡ better_end (direction_in (problem_in program)) (goal_ends (root_in program) b (problem_in program)) → end ≡ (box_problem_of program).end b
unfolding box_problem_of
end_is program b end is = is

pub lawful_of : (program : Program) → IsMade program → Lawful (box_problem_of program)
unfolding box_problem_of
lawful_of program made =
    problems_are_lawful (root_in program) (problem_in program) made.draft.store.root_is_box made.problem

pub root_near : (program : Program) → IsMade program → IsNearBox (box_problem_of program).root
unfolding box_problem_of
root_near program made = made.draft.near
