-- What a search of the points of a problem's cells finds out.
use Rattle.std.specs.Prelude.{◌≡◌, ℤ, List, Some}
use Rattle.sopl_base.specs.Better.{IsBetter}
use Rattle.sopl_ast.specs.Instances.{Problem}
use Rattle.sopl_ast.specs.Cells.{cells, IsPoint, policy_at}
use Rattle.sopl_ast.specs.Optimal.{Satisfies, numerator, direction_of}

-- no point whose policy satisfies has a better value
abbrev pub NoPointIsBetter : Problem → ℤ → Type 0
NoPointIsBetter problem value =
    (xs : List ℤ) → IsPoint (cells problem) xs → Satisfies problem (policy_at (cells problem) xs)
    → (v : ℤ) → numerator problem (policy_at (cells problem) xs) ≡ Some v → ¬ IsBetter (direction_of problem) v value

-- no point's policy satisfies
abbrev pub NoPointSatisfies : Problem → Type 0
NoPointSatisfies problem = (xs : List ℤ) → IsPoint (cells problem) xs → ¬ Satisfies problem (policy_at (cells problem) xs)
