-- The lists of the syntax tree, between the ordinary lists that contracts speak of and those inside a tree.
use Rattle.std.specs.Prelude.{ℕ, Bool, List, [], ◌∷◌}
use Rattle.sopl_ast.specs.declared.operators.MulOp.{MulOp}
use Rattle.sopl_ast.specs.Tree.{Tree, Trees, no_tree, tree, Terms, no_term, term, Factors, no_factor, factor, Binders, no_binder, binder, Range}

-- a binder: its name, its place and its range
pub record BinderTree : Type 0 where
  pub name : List ℕ
  pub at : ℕ
  pub range : Range

-- a chain of `*`, `div` and `mod`: its first part, and each operator with the part behind it
pub record Product : Type 0 where
  pub first : Tree
  pub others : List (MulOp × Tree)

-- expressions, as a tree holds them
abbrev pub trees : List Tree → Trees
trees [] = no_tree
trees (t ∷ ts) = tree t (trees ts)

-- the parts of a chain of `+` and `-`, as a tree holds them
abbrev pub terms : List (Bool × Tree) → Terms
terms [] = no_term
terms (t ∷ ts) = term t.0 t.1 (terms ts)

-- what follows the first part of a product, as a tree holds it
abbrev pub factors : List (MulOp × Tree) → Factors
factors [] = no_factor
factors (f ∷ fs) = factor f.0 f.1 (factors fs)

-- binders, as a tree holds them
abbrev pub binders : List BinderTree → Binders
binders [] = no_binder
binders (b ∷ bs) = binder b.name b.at b.range (binders bs)

-- the expressions that a tree holds
abbrev pub trees_list : Trees → List Tree
trees_list no_tree = []
trees_list (tree t ts) = t ∷ trees_list ts
