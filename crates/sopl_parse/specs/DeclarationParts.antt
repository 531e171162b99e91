-- What is read of the parts of a long declaration.
use Rattle.std.specs.Prelude.{List, Option, Ok}
use Rattle.sopl_ast.specs.declared.token.Token.{Token}
use Rattle.sopl_ast.specs.Tree.{Tree}
use Rattle.sopl_ast.specs.Whole.{InitTree}
use Rattle.parse_grammar.specs.declared.marks.Mark.TheVariants as m
use Rattle.parse_grammar.specs.Reading.{Read, Way, ◌>>=◌, past}
use Rattle.parse_grammar.specs.Phrases.{init, stage}

-- the initial value of an `int`, between its marks
unfoldable pub assigned : Way → List Token → Read InitTree
assigned w ts = do
  left ← past w m.Assign ts
  (value, behind) ← init w left
  after ← past w m.Semi behind
  Ok (value, after)

-- a stage or none, and the end of its declaration
unfoldable pub staged : Way → List Token → Read (Option Tree)
staged w ts = do
  (e, left) ← stage w ts
  after ← past w m.Semi left
  Ok (e, after)
