-- Nonterminals: a whole model, and what may stand behind a token that counts as one more nesting. Each has a row.
use Rattle.std.specs.Prelude.{ℕ, List}
use Rattle.sopl_ast.specs.Lists.{BinderTree}
use Rattle.sopl_ast.specs.Tree.{Tree}
use Rattle.sopl_ast.specs.Whole.{DimTree, InitTree, ConsTree, ModelTree}

pub data Nonterminal : Type 0 where
  Model : Nonterminal
  -- in parentheses, in the brackets of an element, and behind `=>`
  Expression : Nonterminal
  -- behind `!`
  Negation : Nonterminal
  -- behind a prefix `-`
  Operand : Nonterminal
  -- behind `sum`
  Summed : Nonterminal
  -- in the parentheses of `min` and `max`
  Arguments : Nonterminal
  -- in the parentheses of `allDifferent`
  Compared : Nonterminal
  -- a task, and what stands in the parentheses of `cumulative`
  Task : Nonterminal
  Tasks : Nonterminal
  -- binders in parentheses
  Bound : Nonterminal
  -- in the brackets of a dimension and of initial values
  Dim : Nonterminal
  Inits : Nonterminal
  -- in the braces of a set's type, a set, a distribution and a block
  IntType : Nonterminal
  Elements : Nonterminal
  Outcomes : Nonterminal
  Constraints : Nonterminal
  -- behind `forall`
  Quantified : Nonterminal

-- the values of a nonterminal
abbrev pub ValueOf : Nonterminal → Type 0
ValueOf Model = ModelTree
ValueOf Expression = Tree
ValueOf Negation = Tree
ValueOf Operand = Tree
ValueOf Summed = List BinderTree × Tree
ValueOf Arguments = List Tree
ValueOf Compared = List BinderTree × Tree
ValueOf Task = Tree × (Tree × Tree)
ValueOf Tasks = List BinderTree × ((Tree × (Tree × Tree)) × Tree)
ValueOf Bound = List BinderTree
ValueOf Dim = DimTree
ValueOf Inits = List InitTree
ValueOf IntType = ℕ
ValueOf Elements = List Tree
ValueOf Outcomes = List (Tree × Tree)
ValueOf Constraints = List ConsTree
ValueOf Quantified = List BinderTree × ConsTree
