-- The weights of initial values.
use Rattle.std.proofs.Common.{ℕ, zero, suc, ◌<◌, List, [], ◌∷◌, map, length, get_or, arith}
use Rattle.sopl_ast.specs.declared.inits.Init.{Init}
use Rattle.sopl_ast.specs.Inits.{init_tree}
use Rattle.sopl_ast.specs.Whole.{inits}
use Rattle.sopl_ast.specs.WholeWeight.{weight_init, weight_inits}

-- an initial value weighs less than its list
pub weight-part : (xs : List Init) (i : ℕ) (d : Init) → i < length xs → weight_init (init_tree (get_or xs i d)) < weight_inits (inits (map init_tree xs))
weight-part [] i d h = absurd (omega arith)
weight-part (x ∷ xs) zero d h = omega arith
weight-part (x ∷ xs) (suc i) d h = omega (arith, weight-part xs i d (omega arith))
