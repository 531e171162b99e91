-- Rows that are no good: the test refuses them.
use Rattle.std.specs.Prelude.{◌≡◌, false, List}
use Rattle.sopl_ast.specs.Lists.{BinderTree}
use Rattle.sopl_ast.specs.Tree as t
use Rattle.sopl_ast.specs.Tree.{Tree, Node}
use Rattle.sopl_ast.specs.ExpressionRows.{element_row, parentheses_row, expression_row, bindings_row, product_row}
use Rattle.sopl_ast.specs.Nonterminals as s
use Rattle.sopl_ast.specs.PhraseLanguage.{Phrase, terminal, ◌then◌, ◌makes◌, ◌or◌, any}
use Rattle.grammar_rows.specs.RowTests.{continues, goes_on, is_predictive, kinds_within}
use Rattle.sopl_ast.specs.Terminals.{a_name}

-- two alternatives that begin alike: a name, and a name with indices
abbrev pub alike_row : Phrase Tree
alike_row = element_row or parentheses_row or (terminal a_name makes λ (at, bytes). Node at (t.Name bytes))

-- a list without marks between its items: a sign may go on with an item, and begin one
abbrev pub unmarked_row : Phrase (List Tree)
unmarked_row = any expression_row

-- the body of a `sum` that does not run to the end of its product
abbrev pub open_summed_row : Phrase (List BinderTree × Tree)
open_summed_row = bindings_row then product_row

-- the first two cannot be read by the kind of the next token; with the last goes on what is said not to go on behind `sum`
pub record WrongRowsFail : Type 0 where
  pub alike : is_predictive alike_row ≡ false
  pub unmarked : is_predictive unmarked_row ≡ false
  pub unbounded : kinds_within (continues open_summed_row) (goes_on s.Summed) ≡ false
