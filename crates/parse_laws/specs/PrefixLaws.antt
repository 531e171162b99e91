-- What is true of all prefixes of models.
use Rattle.std.specs.Prelude.{ℕ, List, ◌++◌}
use Rattle.sopl_ast.specs.declared.token.Token.{Token}
use Rattle.sopl_ast.specs.Whole.{ModelTree}
use Rattle.sopl_ast.specs.Grammar.{Spells, IsPrefix}

-- some model's tokens begin with these
pub record BeginsSomeModel (tokens : List Token) : Type 0 where
  pub others : List Token
  pub whole : ModelTree
  pub spelled : Spells (tokens ++ others) whole

-- tokens that go along the rows up to where they end are the beginning of some model's tokens
abbrev pub PrefixesGoOn : Type 0
PrefixesGoOn = (n : ℕ) (tokens : List Token) → IsPrefix n tokens → BeginsSomeModel tokens
