-- What an objective is worth by its values in all scenarios.
use Rattle.std.specs.Prelude.{ℤ, pos, Bool, List, [], ◌∷◌, Option, Some, None, unwrap_or, if◌then◌else◌}
use Rattle.std.specs.Int.{int_min, int_max}
use Rattle.sopl_base.specs.declared.direction.Direction.{Direction}
use Rattle.sopl_base.specs.declared.direction.Direction.TheVariants.{Minimize, Maximize, Nothing}
use Rattle.sopl_ast.specs.Numbers.{extreme}
use Rattle.policy_eval.specs.Tried.{weighted}

-- the worst value, if there is one; where nothing is asked for it is the first
abbrev pub first_of : List ℤ → Option ℤ
first_of [] = None
first_of (x ∷ xs) = Some x

abbrev pub worst_in : Direction → List ℤ → Option ℤ
worst_in Minimize xs = extreme int_max xs
worst_in Maximize xs = extreme int_min xs
worst_in Nothing xs = first_of xs

abbrev pub worst_of : Direction → List ℤ → ℤ
worst_of direction xs = unwrap_or (worst_in direction xs) (pos 0)

abbrev pub is_worth : Bool → Direction → List ℤ → List ℤ → ℤ
is_worth worst direction weights xs = if worst then worst_of direction xs else weighted weights xs
