-- The parts of a bracket, one by one.
use Rattle.std.proofs.Common.{◌≡◌, refl, ap, ℕ, suc, ℤ, List, [], ◌∷◌, map, length, Option}
use Rattle.sopl_ast.specs.declared.inits.Init.{Init}
use Rattle.sopl_ast.specs.Inits.{init_tree}
use Rattle.sopl_ast.specs.Whole.{InitTrees, no_init, init, inits, inits_list}
use Rattle.sopl_ast.proofs.InitWeights.{weight-part}
use Rattle.sopl_ast.specs.Known.{Known}
use Rattle.unfold_constants.specs.Evaluation.{done}
use Rattle.sopl_ast.specs.Arrays.{Dimension}
use Rattle.unfold_declarations.specs.Declaring.{Entry, parts_in}

-- no number is left, so nothing more is found
pub no_number : (known : Known) (name : Option (List ℕ)) (ds : List Dimension) (index : List ℤ) (xs : InitTrees) (found : List Entry) (count : ℕ)
    → parts_in known name ds [] index xs found count ≡ done found count
no_number known name ds index no_init found count = refl
no_number known name ds index (init x xs) found count = refl

-- how many parts there are
pub parts_counted : (xs : List Init) → length (inits_list (inits (map init_tree xs))) ≡ length xs
parts_counted [] = refl
parts_counted (x ∷ xs) = ap suc (parts_counted xs)

pub ruleset parts = (weight-part, no_number, parts_counted)
