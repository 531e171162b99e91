-- A measure of trees: a tree weighs more than each part of it.
use Rattle.std.specs.Prelude.{ℕ, Bool, ◌+◌, ◌≤◌, max, List, [], ◌∷◌}
use Rattle.std.proofs.Common.{arith}
use denote.Param.Weighed.{most}
use Rattle.sopl_ast.specs.declared.operators.MulOp.{MulOp}
use Rattle.sopl_ast.specs.Tree.{Tree, Node, Shape, Lit, Name, Index, Call, Add, Mul, Cmp, Not, And, Or, Implies, Sum, Selected, AllDifferent, Cumulative, Trees, no_tree}
use Rattle.sopl_ast.specs.Tree.{tree, Terms, no_term, term, Factors, no_factor, factor, Binders, no_binder, binder, Range, Named, Ends}
use Rattle.sopl_ast.specs.Lists.{BinderTree, Product, trees, terms, factors, binders}

abbrev mutual
  pub weight : Tree → ℕ
  weight (Node at shape) = weight_shape shape

  pub weight_shape : Shape → ℕ
  weight_shape (Lit x1) = 0
  weight_shape (Name x1) = 0
  weight_shape (Index x1 x2) = weight_trees x2 + 2
  weight_shape (Call x1 x2) = weight x2 + 2
  weight_shape (Add x1) = weight_terms x1 + 2
  weight_shape (Mul x1 x2) = weight x1 + weight_factors x2 + 2
  weight_shape (Cmp x1 x2 x3) = weight x2 + weight x3 + 2
  weight_shape (Not x1) = weight x1 + 2
  weight_shape (And x1) = weight_trees x1 + 2
  weight_shape (Or x1) = weight_trees x1 + 2
  weight_shape (Implies x1 x2) = weight x1 + weight x2 + 2
  weight_shape (Sum x1 x2) = weight_binders x1 + weight x2 + 2
  weight_shape (Selected x1 x2) = weight_trees x2 + 2
  weight_shape (AllDifferent x1 x2) = weight_binders x1 + weight x2 + 2
  weight_shape (Cumulative x1 x2 x3 x4 x5) = weight_binders x1 + weight x2 + weight x3 + weight x4 + weight x5 + 2

  pub weight_trees : Trees → ℕ
  weight_trees no_tree = 0
  weight_trees (tree x1 x2) = weight x1 + weight_trees x2 + 1

  pub weight_terms : Terms → ℕ
  weight_terms no_term = 0
  weight_terms (term x1 x2 x3) = weight x2 + weight_terms x3 + 1

  pub weight_factors : Factors → ℕ
  weight_factors no_factor = 0
  weight_factors (factor x1 x2 x3) = weight x2 + weight_factors x3 + 1

  pub weight_binders : Binders → ℕ
  weight_binders no_binder = 0
  weight_binders (binder x1 x2 x3 x4) = weight_range x3 + weight_binders x4 + 2

  pub weight_range : Range → ℕ
  weight_range (Named x1 x2) = 0
  weight_range (Ends x1 x2) = weight x1 + weight x2 + 1

-- the weight of expressions in order
abbrev pub weight_of_trees : List Tree → ℕ
weight_of_trees ts = weight_trees (trees ts)

-- the weight of the parts of a sum
abbrev pub weight_of_terms : List (Bool × Tree) → ℕ
weight_of_terms ts = weight_terms (terms ts)

-- the weight of a product
abbrev pub weight_of_product : Product → ℕ
weight_of_product p = weight p.first + weight_factors (factors p.others) + 1

-- the weight of a binder
abbrev pub weight_of_binder : BinderTree → ℕ
weight_of_binder b = weight_range b.range + 1

-- the weight of binders in order
abbrev pub weight_of_binders : List BinderTree → ℕ
weight_of_binders bs = weight_binders (binders bs)

-- no expression weighs more than its list
pub most-trees : (ts : List Tree) → most (λ t. weight t + 1) ts ≤ weight_of_trees ts
most-trees [] = omega arith
most-trees (t ∷ ts) = omega (arith, most-trees ts)

-- no part weighs more than its sum
pub most-terms : (ts : List (Bool × Tree)) → most (λ t. max 0 (max (weight t.1 + 1) 0)) ts ≤ weight_of_terms ts
most-terms [] = omega arith
most-terms (t ∷ ts) = omega (arith, most-terms ts)

-- no part weighs more than its product
pub most-factors : (fs : List (MulOp × Tree)) → most (λ f. max 0 (max (weight f.1 + 1) 0)) fs ≤ weight_factors (factors fs)
most-factors [] = omega arith
most-factors (f ∷ fs) = omega (arith, most-factors fs)

-- no binder weighs more than its list
pub most-binders : (bs : List BinderTree) → most (λ b. weight_of_binder b + 1) bs ≤ weight_of_binders bs
most-binders [] = omega arith
most-binders (b ∷ bs) = omega (arith, most-binders bs)
