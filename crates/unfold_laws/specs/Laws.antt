-- The names of what a text states.
use Rattle.std.specs.Prelude.{ℕ, List, IsTrue}
use Rattle.std.specs.List.{list_all}
use Rattle.sopl_ast.specs.Pieces.{is_word}
use Rattle.sopl_ast.specs.Origin.{IsFromTokens}
use Rattle.sopl_ast.specs.Whole.{ModelTree}
use Rattle.sopl_ast.specs.Instances.{Stochastic, names_in}
use Rattle.sopl_ast.specs.Unfolding.{problem_of}

-- the bytes have the form of a name
abbrev pub IsWord : List ℕ → Type 0
IsWord name = IsTrue (is_word name)

-- the name of a stochastic variable has the form of one
abbrev pub HasWord : Stochastic → Type 0
HasWord s = IsWord s.name

-- the decisions and the stochastic variables of a text have names of the form of names
abbrev pub NamesAreWords : Type 0
NamesAreWords = (model : ModelTree) → IsFromTokens model → IsTrue (list_all is_word (names_in (problem_of model).decisions (problem_of model).stochastics))
