-- Number expressions and conditions over cells, as plain data. Names, binders and the scenario are put in; the cells alone are open.
use Rattle.std.specs.Prelude.{ℕ, ℤ, Bool, List}
use Rattle.sopl_base.specs.declared.comparison.CmpOp.{CmpOp}
use Rattle.sopl_base.specs.declared.extreme.Extreme.{Extreme}
use Rattle.term_language.specs.declared.made.Operation.{Operation}

-- an element of an array: a number, or a cell
pub data Item : Type 0 where
  Fixed : ℤ → Item
  Free : ℕ → Item

-- an array: the index set of each dimension, its numbers in ascending order, and the items at the indices in lexicographic order
pub record Table : Type 0 where
  pub sets : List (List ℤ)
  pub items : List Item

mutual
  -- number expressions
  pub data Term : Type 0 where
    Constant : ℤ → Term
    Cell : ℕ → Term
    Sum : Parts → Term
    Product : Term → Term → Term
    -- what is made of one number; what it is divided by is not 0
    Made : Operation → Term → Term
    -- the least or the greatest of at least one
    Selected : Extreme → Term → Terms → Term
    -- the element of an array at an index
    Element : Table → Terms → Term
    -- a condition as a number, 1 or 0
    Number : Cond → Term

  pub data Terms : Type 0 where
    no_term : Terms
    term : Term → Terms → Terms

  -- the parts of a sum, each with whether it is subtracted
  pub data Parts : Type 0 where
    no_part : Parts
    part : Bool → Term → Parts → Parts

  -- conditions
  pub data Cond : Type 0 where
    Compare : CmpOp → Term → Term → Cond
    Not : Cond → Cond
    All : Conds → Cond
    Any : Conds → Cond
    Implies : Cond → Cond → Cond
    AllDifferent : Terms → Cond
    -- tasks, and the capacity
    Cumulative : Tasks → Term → Cond

  pub data Conds : Type 0 where
    no_cond : Conds
    condition : Cond → Conds → Conds

  -- the starts, the lengths and the demands of tasks
  pub data Tasks : Type 0 where
    no_task : Tasks
    task : Term → Term → Term → Tasks → Tasks
