-- The syntax tree as plain data: what contracts see of an expression, a binder, a range, an initial value and a constraint.
-- A node's place is the offset of its first byte in the text.
use Rattle.std.specs.Prelude.{ℕ, ℤ, Bool, List}
use Rattle.sopl_base.specs.declared.comparison.CmpOp.{CmpOp}
use Rattle.sopl_base.specs.declared.extreme.Extreme.{Extreme}
use Rattle.sopl_ast.specs.declared.operators.Function.{Function}
use Rattle.sopl_ast.specs.declared.operators.MulOp.{MulOp}

mutual
  -- an expression: its place, and what it is
  pub data Tree : Type 0 where
    Node : (at : ℕ) → (shape : Shape) → Tree

  pub data Shape : Type 0 where
    Lit : ℤ → Shape
    Name : List ℕ → Shape
    Index : List ℕ → Trees → Shape
    Call : Function → Tree → Shape
    Add : Terms → Shape
    Mul : Tree → Factors → Shape
    Cmp : CmpOp → Tree → Tree → Shape
    Not : Tree → Shape
    And : Trees → Shape
    Or : Trees → Shape
    Implies : Tree → Tree → Shape
    Sum : Binders → Tree → Shape
    Selected : Extreme → Trees → Shape
    AllDifferent : Binders → Tree → Shape
    Cumulative : Binders → Tree → Tree → Tree → Tree → Shape

  -- expressions in order
  pub data Trees : Type 0 where
    no_tree : Trees
    tree : Tree → Trees → Trees

  -- the parts of a chain of `+` and `-`, each with whether it is subtracted
  pub data Terms : Type 0 where
    no_term : Terms
    term : Bool → Tree → Terms → Terms

  -- what follows the first part of a chain of `*`, `div` and `mod`
  pub data Factors : Type 0 where
    no_factor : Factors
    factor : MulOp → Tree → Factors → Factors

  -- binders in order: a name, its place and its range
  pub data Binders : Type 0 where
    no_binder : Binders
    binder : List ℕ → ℕ → Range → Binders → Binders

  -- a range by its name, or by its two ends
  pub data Range : Type 0 where
    Named : List ℕ → ℕ → Range
    Ends : Tree → Tree → Range

-- the place of an expression
abbrev pub place_of : Tree → ℕ
place_of (Node at shape) = at

-- what an expression is
abbrev pub shape_of : Tree → Shape
shape_of (Node at shape) = shape
