-- Each part of an initial value weighs less than the value.
use Rattle.std.specs.Prelude.{◌≤◌, List, [], ◌∷◌, map}
use Rattle.std.proofs.Common.{arith}
use denote.Param.Weighed.{most}
use Rattle.sopl_ast.specs.WholeWeight.{weight_init, weight_of_inits}
use Rattle.sopl_ast.specs.Inits.{init_tree}
use Rattle.sopl_ast.specs.declared.inits.Init.{Init}
use Rattle.sopl_ast.specs.declared.inits.Init.TheVariants as text
use Rattle.sopl_ast.specs.declared.inits.Inits.TheDeep.{deep-Init}

-- the children of an initial value weigh no more than it
pub falls_init : (x : Init) → deep-Init x ≤ weight_init (init_tree x)
falls_init (text.One e) = omega arith
falls_init (text.Many at parts) = omega arith

-- no initial value weighs more than its list
pub falls_inits : (xs : List Init) → most deep-Init xs ≤ weight_of_inits (map init_tree xs)
falls_inits [] = omega arith
falls_inits (x ∷ xs) = omega (arith, falls_init x, falls_inits xs)
