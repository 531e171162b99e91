-- What is read of the parts of a chance constraint.
use Rattle.std.specs.Prelude.{List, Ok}
use Rattle.sopl_ast.specs.declared.token.Token.{Token}
use Rattle.sopl_ast.specs.Tree.{Tree}
use Rattle.parse_grammar.specs.declared.marks.Mark.TheVariants as m
use Rattle.parse_grammar.specs.Reading.{Read, Way, ◌>>=◌, past, enter}
use Rattle.parse_grammar.specs.Expressions.{no_tree, sum}

-- the condition of a chance constraint, and the mark behind it
unfoldable pub condition : Way → List Token → Read Tree
condition w ts = do
  (e, left) ← enter w m.ParenOpen no_tree (λ inner. inner.expression) ts
  behind ← past w m.ParenClose left
  last ← past w m.GreaterEq behind
  Ok (e, last)

-- the probability of a chance constraint, and its end
unfoldable pub share : Way → List Token → Read (Tree × Tree)
share w ts = do
  (p, left) ← sum w ts
  behind ← past w m.Slash left
  (q, last) ← sum w behind
  after ← past w m.Semi last
  Ok ((p, q), after)
