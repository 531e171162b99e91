-- What is read of the parts of a long phrase, and what a task that was read stands for.
use Rattle.std.specs.Prelude.{List, Ok}
use Rattle.sopl_ast.specs.declared.build.Task.{Task}
use Rattle.sopl_ast.specs.declared.token.Token.{Token}
use Rattle.sopl_ast.specs.Tree.{Tree}
use Rattle.parse_grammar.specs.declared.marks.Mark.TheVariants as m
use Rattle.parse_grammar.specs.Reading.{Read, Way, ◌>>=◌, past, enter}
use Rattle.parse_grammar.specs.Expressions.{no_tree, expression}

-- the start, the length and the demand of a task
abbrev pub task_in : Task → Tree × (Tree × Tree)
task_in task = (task.start, (task.duration, task.demand))

-- a task in parentheses
unfoldable pub enclosed_task : Way → List Token → Read (Tree × (Tree × Tree))
enclosed_task w ts = do
  (each, behind) ← enter w m.ParenOpen (no_tree, (no_tree, no_tree)) (λ inner. inner.task) ts
  last ← past w m.ParenClose behind
  Ok (each, last)

-- a task in parentheses, and the capacity
unfoldable pub limited_task : Way → List Token → Read ((Tree × (Tree × Tree)) × Tree)
limited_task w ts = do
  (each, last) ← enclosed_task w ts
  further ← past w m.Comma last
  (capacity, after) ← expression w further
  Ok ((each, capacity), after)
