-- The problem in terms of a text, over the box of all points.
use Rattle.std.specs.Prelude.{◌≡◌, true, ℤ, List, Some, None}
use Rattle.sopl_ast.specs.Cells.{cells, policy_at}
use Rattle.sopl_ast.specs.Mistakes.{IsWellTyped}
use Rattle.sopl_ast.specs.Optimal.{IsOptimal, IsInfeasible}
use Rattle.sopl_ast.specs.Origin.{IsFromTokens}
use Rattle.sopl_ast.specs.Unfolding.{problem_of, text_events}
use Rattle.sopl_ast.specs.Whole.{ModelTree}
use Rattle.unfold_laws.specs.Passing.{NothingFails}
use Rattle.box_problem.specs.Box.{InBox}
use Rattle.box_problem.specs.BoxProblem.{BoxProblem, Beats, Lawful}
use Rattle.term_problem.specs.Problems.{IsProblem}
use Rattle.term_problem.specs.Search.{problem_over}
use Rattle.compile_laws.specs.Root.{root_box}
use Rattle.compile_laws.specs.Whole.{problem_terms}

-- a text was read, it has no mistake, and nothing stops its unfolding
pub record IsUnfolded (model : ModelTree) : Type 0 where
  pub from : IsFromTokens model
  pub typed : IsWellTyped model
  pub passes : NothingFails (text_events model)

-- the problem of a text as a search sees it
abbrev pub searched : ModelTree → BoxProblem
searched model = problem_over (root_box (cells (problem_of model))) (problem_terms (problem_of model))

-- in terms it is well made
abbrev pub ProblemsAreWellMade : Type 0
ProblemsAreWellMade = (model : ModelTree) → IsFromTokens model → NothingFails (text_events model) → IsProblem (problem_terms (problem_of model))

-- so a search may go by what closes a box
abbrev pub TextsAreLawful : Type 0
TextsAreLawful = (model : ModelTree) → IsFromTokens model → NothingFails (text_events model) → Lawful (searched model)

-- the policy of a point that satisfies, and that no point beats, is optimal
abbrev pub UnbeatenIsOptimal : Type 0
UnbeatenIsOptimal =
    (model : ModelTree) → IsUnfolded model → (point : List ℤ) → InBox (searched model).root point → (searched model).satisfies point ≡ true
    → ((other : List ℤ) → InBox (searched model).root other → ¬ Beats (searched model) (Some ((searched model).value point)) other)
    → IsOptimal (problem_of model) (policy_at (cells (problem_of model)) point) ((searched model).value point)

-- where no point satisfies, no policy does
abbrev pub UnreachedIsInfeasible : Type 0
UnreachedIsInfeasible =
    (model : ModelTree) → IsUnfolded model → ((point : List ℤ) → InBox (searched model).root point → ¬ Beats (searched model) None point)
    → IsInfeasible (problem_of model)
