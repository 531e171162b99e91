-- Which function of the reader reads each nonterminal.
use Rattle.std.specs.Prelude.{ℕ, List, Ok}
use Rattle.sopl_ast.specs.declared.token.Token.{Token}
use Rattle.parse_grammar.specs.declared.marks.Mark.TheVariants as m
use Rattle.parse_grammar.specs.Expressions.{arguments, bound, compared, expression, negation, operand, summed, task, tasks}
use Rattle.parse_grammar.specs.Heads.{place}
use Rattle.parse_grammar.specs.Phrases.{constraints, dim, elements, init_list, outcomes, quantified, whole}
use Rattle.parse_grammar.specs.Reading.{Read, Way, ◌>>=◌, past}
use Rattle.sopl_ast.specs.Nonterminals as s
use Rattle.sopl_ast.specs.Nonterminals.{Nonterminal, ValueOf}

-- the keyword of a set's type: its place
abbrev pub int_mark : Way → List Token → Read ℕ
int_mark w ts = past w m.Int ts >>= (λ left. Ok (place ts, left))

-- the function for each nonterminal
abbrev pub reader_of : (s : Nonterminal) → Way → List Token → Read (ValueOf s)
reader_of s.Model = whole
reader_of s.Expression = expression
reader_of s.Negation = negation
reader_of s.Operand = operand
reader_of s.Summed = summed
reader_of s.Arguments = arguments
reader_of s.Compared = compared
reader_of s.Task = task
reader_of s.Tasks = tasks
reader_of s.Bound = bound
reader_of s.Dim = dim
reader_of s.Inits = init_list
reader_of s.IntType = int_mark
reader_of s.Elements = elements
reader_of s.Outcomes = outcomes
reader_of s.Constraints = constraints
reader_of s.Quantified = quantified
