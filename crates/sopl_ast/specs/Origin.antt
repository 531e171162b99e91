-- Where a model comes from: the tokens of a text.
use Rattle.std.specs.Prelude.{List, IsTrue}
use Rattle.std.specs.List.{AllByRecursion}
use Rattle.sopl_ast.specs.declared.token.Token.{Token}
use Rattle.sopl_ast.specs.declared.token.TokenKind.{TokenKind}
use Rattle.sopl_ast.specs.declared.token.TokenKind.TheVariants as k
use Rattle.sopl_ast.specs.Pieces.{is_word}
use Rattle.sopl_ast.specs.Whole.{ModelTree}
use Rattle.sopl_ast.specs.Grammar.{Spells}

-- a token that is a name has the form of one
abbrev pub HasForm : TokenKind → Type 0
HasForm (k.Name bytes) = IsTrue (is_word bytes)
HasForm _ = Unit {0}

-- some tokens spell the model, and each name among them has the form of one
pub record IsFromTokens (model : ModelTree) : Type 0 where
  pub tokens : List Token
  pub spelled : Spells tokens model
  pub names : AllByRecursion (λ token. HasForm token.kind) tokens
