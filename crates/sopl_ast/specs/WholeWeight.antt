-- Measures of initial values and of constraints: one weighs more than each part of it.
use Rattle.std.specs.Prelude.{ℕ, ◌+◌, List}
use Rattle.sopl_ast.specs.Weight.{weight_binders}
use Rattle.sopl_ast.specs.Whole.{InitTree, One, Many, InitTrees, no_init, init, inits, ConsTree, ConsTrees, ForallTree, BlockTree, HardTree, ChanceTree, no_cons, cons}

abbrev mutual
  pub weight_init : InitTree → ℕ
  weight_init (One e) = 0
  weight_init (Many at parts) = weight_inits parts + 1

  pub weight_inits : InitTrees → ℕ
  weight_inits no_init = 0
  weight_inits (init x xs) = weight_init x + weight_inits xs + 1

-- the weight of initial values in order
abbrev pub weight_of_inits : List InitTree → ℕ
weight_of_inits xs = weight_inits (inits xs)

abbrev mutual
  pub weight_cons : ConsTree → ℕ
  weight_cons (ForallTree bs c) = weight_binders bs + weight_cons c + 1
  weight_cons (BlockTree cs) = weight_conses cs + 1
  weight_cons (HardTree e) = 0
  weight_cons (ChanceTree e p q) = 0

  pub weight_conses : ConsTrees → ℕ
  weight_conses no_cons = 0
  weight_conses (cons c cs) = weight_cons c + weight_conses cs + 1
