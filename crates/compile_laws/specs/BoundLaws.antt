-- What holds of a text's policies by what is known of the points of its cells.
use Rattle.std.specs.Prelude.{ℤ, List}
use Rattle.sopl_ast.specs.Cells.{cells, policy_at}
use Rattle.sopl_ast.specs.Optimal.{IsOptimal, IsInfeasible}
use Rattle.sopl_ast.specs.Unfolding.{problem_of}
use Rattle.sopl_ast.specs.Whole.{ModelTree}
use Rattle.box_problem.specs.Reached.{IsReached, NoneBetter, NoneSatisfies}
use Rattle.compile_laws.specs.WellMade.{IsUnfolded, searched}
use Rattle.compile_laws.specs.Bounds.{IsWorth, IsBoundOf}

-- the policy of a point that satisfies does so too, and has its value
abbrev pub ReachedIsWorth : Type 0
ReachedIsWorth =
    (model : ModelTree) (value : ℤ) (point : List ℤ) → IsUnfolded model → IsReached (searched model) value point
    → IsWorth (problem_of model) (policy_at (cells (problem_of model)) point) value

-- no policy that satisfies is better than a value that no point which satisfies is better than
abbrev pub BoundsHold : Type 0
BoundsHold = (model : ModelTree) (bound : ℤ) → IsUnfolded model → NoneBetter (searched model) bound → IsBoundOf (problem_of model) bound

-- so the policy of a point that is reached and not beaten is optimal
abbrev pub UnbeatenIsBest : Type 0
UnbeatenIsBest =
    (model : ModelTree) (value : ℤ) (point : List ℤ) → IsUnfolded model → IsReached (searched model) value point → NoneBetter (searched model) value
    → IsOptimal (problem_of model) (policy_at (cells (problem_of model)) point) value

-- and where no point satisfies, no policy does
abbrev pub UnreachedIsNone : Type 0
UnreachedIsNone = (model : ModelTree) → IsUnfolded model → NoneSatisfies (searched model) → IsInfeasible (problem_of model)
