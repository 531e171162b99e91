-- A whole model text as plain data: declarations, the objective and constraints.
use Rattle.std.specs.Prelude.{ℕ, Bool, Option, List, [], ◌∷◌}
use Rattle.sopl_base.specs.declared.direction.Direction.{Direction}
use Rattle.sopl_ast.specs.Tree.{Tree, Trees, Binders, Range}

-- a dimension: the name that goes over it, if any; its place; and its range
pub record DimTree : Type 0 where
  pub binder : Option (List ℕ)
  pub at : ℕ
  pub range : Range

mutual
  -- an initial value: one expression, or a list of such values, with its place
  pub data InitTree : Type 0 where
    One : Tree → InitTree
    Many : (at : ℕ) → (parts : InitTrees) → InitTree

  -- initial values in order
  pub data InitTrees : Type 0 where
    no_init : InitTrees
    init : InitTree → InitTrees → InitTrees

-- a declaration: its name, the name's place, and what it declares
pub data Declaration : Type 0 where
  IntDecl : (name : List ℕ) → (at : ℕ) → (dims : List DimTree) → (value : InitTree) → Declaration
  RangeDecl : (name : List ℕ) → (at : ℕ) → (lo : Tree) → (hi : Tree) → Declaration
  SetDecl : (name : List ℕ) → (at : ℕ) → (elements : Trees) → Declaration
  DvarDecl : (name : List ℕ) → (at : ℕ) → (dims : List DimTree) → (range : Range) → (stage : Option Tree) → Declaration
  StochDecl : (name : List ℕ) → (at : ℕ) → (dims : List DimTree) → (dist : List (Tree × Tree)) → (stage : Option Tree) → Declaration

mutual
  -- a constraint: one for each value of its binders, a block of them, a hard one, or a chance constraint,
  -- which is to hold with the probability `p / q` at least
  pub data ConsTree : Type 0 where
    ForallTree : Binders → ConsTree → ConsTree
    BlockTree : ConsTrees → ConsTree
    HardTree : Tree → ConsTree
    ChanceTree : (cond : Tree) → (p : Tree) → (q : Tree) → ConsTree

  -- constraints in order
  pub data ConsTrees : Type 0 where
    no_cons : ConsTrees
    cons : ConsTree → ConsTrees → ConsTrees

-- the objective: its direction, whether the worst scenario counts or the mean of all, and its expression
pub record GoalTree : Type 0 where
  pub direction : Direction
  pub worst : Bool
  pub expr : Tree

-- a model: its declarations, its objective if it has one, and its constraints
pub record ModelTree : Type 0 where
  pub decls : List Declaration
  pub goal : Option GoalTree
  pub body : List ConsTree

-- initial values, as an initial value holds them
abbrev pub inits : List InitTree → InitTrees
inits [] = no_init
inits (x ∷ xs) = init x (inits xs)

-- the initial values that an initial value holds
abbrev pub inits_list : InitTrees → List InitTree
inits_list no_init = []
inits_list (init x xs) = x ∷ inits_list xs

-- constraints, as a block holds them
abbrev pub conses : List ConsTree → ConsTrees
conses [] = no_cons
conses (c ∷ cs) = cons c (conses cs)
