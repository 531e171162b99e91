-- What holds of a problem in terms over the boxes inside its root.
use Rattle.std.specs.Prelude.{◌≡◌, ◌↔◌, true, ℤ, List, Some}
use Rattle.box_problem.specs.Box.{Box, IsBox, Inside}
use Rattle.box_problem.specs.BoxProblem.{Lawful}
use Rattle.term_language.specs.Laws.{IsAtMost}
use Rattle.term_problem.specs.Objective.{goal_ends, goal_size}
use Rattle.term_problem.specs.Problems.{ProblemTerms, IsProblem}
use Rattle.term_problem.specs.Points.{Holds, worth}
use Rattle.term_problem.specs.Search.{satisfies, problem_over}

-- the test tells which points satisfy
abbrev pub PointsAreTold : Type 0
PointsAreTold = (terms : ProblemTerms) (point : List ℤ) → satisfies terms point ≡ true ↔ Holds terms point

-- a point that satisfies has a value
abbrev pub PointsHaveValues : Type 0
PointsHaveValues =
    (terms : ProblemTerms) (point : List ℤ) → IsProblem terms → Holds terms point → (value : ℤ) × (worth terms point ≡ Some value)

-- what closes a box is right, and at one point exact: a search may go by it
abbrev pub ProblemsAreLawful : Type 0
ProblemsAreLawful = (root : Box) (terms : ProblemTerms) → IsBox root → IsProblem terms → Lawful (problem_over root terms)

-- over each box inside the root no number of the objective's interval is greater than the objective's size
abbrev pub GoalsAreBounded : Type 0
GoalsAreBounded =
    (root part : Box) (terms : ProblemTerms) → IsBox root → Inside part root → IsProblem terms
    → IsAtMost (goal_ends root part terms) (goal_size root terms)
