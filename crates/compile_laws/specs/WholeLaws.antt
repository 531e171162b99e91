-- What holds of a whole problem in terms.
use Rattle.std.specs.Prelude.{◌≡◌, ◌↔◌, ℕ, ℤ, ◌≤◌, List, length, Some}
use Rattle.std.specs.List.{Contains}
use Rattle.sopl_ast.specs.Whole.{ModelTree}
use Rattle.sopl_ast.specs.Known.{Binding}
use Rattle.sopl_ast.specs.Mistakes.{IsWellTyped}
use Rattle.sopl_ast.specs.Instances.{Problem}
use Rattle.sopl_ast.specs.Scenarios.{Scenario, scenarios}
use Rattle.sopl_ast.specs.Cells.{cells, IsPoint, policy_at}
use Rattle.sopl_ast.specs.Optimal.{Satisfies, numerator, denominator, direction_of, IsOptimal, IsInfeasible}
use Rattle.sopl_ast.specs.Unfolding.{problem_of, text_events}
use Rattle.unfold_laws.specs.Passing.{NothingFails}
use Rattle.compile_laws.specs.Laws.{AreCellsIn, AreArrays}
use Rattle.term_problem.specs.Problems.{denominator_in, direction_in}
use Rattle.term_problem.specs.Points.{Holds, worth}
use Rattle.compile_laws.specs.Whole.{cell_numbers, place_at, problem_terms, IsBestPoint}

-- in each scenario of a problem these are the numbers of the decisions' cells
abbrev pub CellsAreNumbered : Type 0
CellsAreNumbered = (problem : Problem) (s : Scenario) → Contains (scenarios problem.stochastics) s → AreCellsIn problem s (cell_numbers problem s)

-- and no others are
abbrev pub NumbersAreOne : Type 0
NumbersAreOne = (problem : Problem) (s : Scenario) (numbers others : List ℕ) → AreCellsIn problem s numbers → AreCellsIn problem s others → numbers ≡ others

-- wherever the problem's expressions are instantiated, each name is an array
abbrev pub AreArraysIn : Problem → Type 0
AreArraysIn problem = (bound : List Binding) (s : Scenario) → Contains (scenarios problem.stochastics) s → AreArrays (place_at problem bound s)

-- so it is for a text that has no mistake, where nothing stops its unfolding
abbrev pub TextsAreArrays : Type 0
TextsAreArrays = (model : ModelTree) → IsWellTyped model → NothingFails (text_events model) → AreArraysIn (problem_of model)

-- a point satisfies exactly where its policy does, and is worth what its policy is
pub record MeansAt (problem : Problem) (point : List ℤ) : Type 0 where
  pub satisfies : Satisfies problem (policy_at (cells problem) point) ↔ Holds (problem_terms problem) point
  pub worth : numerator problem (policy_at (cells problem) point) ≡ worth (problem_terms problem) point

abbrev pub ProblemsMean : Type 0
ProblemsMean = (problem : Problem) → AreArraysIn problem → (point : List ℤ) → IsPoint (cells problem) point → MeansAt problem point

-- values are over the same denominator, and the same ones are better
pub record SameValues (problem : Problem) : Type 0 where
  pub denominator : denominator_in (problem_terms problem) ≡ denominator problem
  pub direction : direction_in (problem_terms problem) ≡ direction_of problem

abbrev pub ValuesAreSame : Type 0
ValuesAreSame = (problem : Problem) → SameValues problem

-- a point that satisfies has a value, where there is a scenario
abbrev pub SatisfyingHasValue : Type 0
SatisfyingHasValue =
    (problem : Problem) → 1 ≤ length (scenarios problem.stochastics) → (point : List ℤ) → Holds (problem_terms problem) point
    → (value : ℤ) × (worth (problem_terms problem) point ≡ Some value)

-- the policy of a best point is optimal
abbrev pub BestIsOptimal : Type 0
BestIsOptimal =
    (problem : Problem) → AreArraysIn problem → (point : List ℤ) (value : ℤ) → IsBestPoint (cells problem) (problem_terms problem) point value
    → IsOptimal problem (policy_at (cells problem) point) value

-- where no point satisfies, no policy does
abbrev pub NoneIsInfeasible : Type 0
NoneIsInfeasible =
    (problem : Problem) → AreArraysIn problem → ((point : List ℤ) → IsPoint (cells problem) point → ¬ Holds (problem_terms problem) point) → IsInfeasible problem
