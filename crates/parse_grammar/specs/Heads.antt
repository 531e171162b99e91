-- What stands first in a list of tokens: its first token's kind, and what a kind is to the reader.
use Rattle.std.specs.Prelude.{ℕ, ℤ, Bool, true, false, List, [], ◌∷◌, Option, Some, None}
use Rattle.sopl_base.specs.declared.comparison.CmpOp.{CmpOp}
use Rattle.sopl_base.specs.declared.comparison.CmpOp.TheVariants.{Eq, Ne, Lt, Le, Gt, Ge}
use Rattle.sopl_base.specs.declared.direction.Direction.{Direction}
use Rattle.sopl_base.specs.declared.direction.Direction.TheVariants.{Minimize, Maximize}
use Rattle.sopl_ast.specs.Terminals.{literal_value, name_bytes}
use Rattle.sopl_base.specs.declared.extreme.Extreme.{Extreme}
use Rattle.sopl_base.specs.declared.extreme.Extreme.TheVariants.{Least, Greatest}
use Rattle.sopl_ast.specs.declared.operators.Function.{Function}
use Rattle.sopl_ast.specs.declared.operators.Function.TheVariants.{Size}
use Rattle.sopl_ast.specs.declared.operators.MulOp.{MulOp}
use Rattle.sopl_ast.specs.declared.operators.MulOp.TheVariants.{Times, Div, Mod}
use Rattle.sopl_ast.specs.declared.token.Token.{Token}
use Rattle.sopl_ast.specs.declared.token.TokenKind.{TokenKind}
use Rattle.sopl_ast.specs.declared.token.TokenKind.TheVariants as k
use Rattle.parse_grammar.specs.declared.marks.Mark.{Mark}
use Rattle.parse_grammar.specs.declared.marks.Mark.TheVariants as m

-- the first token's kind
abbrev pub head : List Token → Option TokenKind
head [] = None
head (u ∷ us) = Some u.kind

-- the tokens behind the first one
abbrev pub rest : List Token → List Token
rest [] = []
rest (u ∷ us) = us

-- where the first token stands; 0 where there is none
abbrev pub place : List Token → ℕ
place [] = 0
place (u ∷ us) = u.span.start

-- what a kind is, where there is one
abbrev pub at_kind : {A : Type 0} → (TokenKind → Option A) → Option TokenKind → Option A
at_kind f None = None
at_kind f (Some kind) = f kind

-- the operator of a chain of products that a kind is
abbrev pub factor_of_kind : TokenKind → Option MulOp
factor_of_kind k.Star = Some Times
factor_of_kind k.Div = Some Div
factor_of_kind k.Mod = Some Mod
factor_of_kind _ = None

-- that of a chain of sums: whether the next part is subtracted
abbrev pub term_of_kind : TokenKind → Option Bool
term_of_kind k.Plus = Some false
term_of_kind k.Minus = Some true
term_of_kind _ = None

-- that of a comparison
abbrev pub comparison_of_kind : TokenKind → Option CmpOp
comparison_of_kind k.EqEq = Some Eq
comparison_of_kind k.NotEq = Some Ne
comparison_of_kind k.Less = Some Lt
comparison_of_kind k.LessEq = Some Le
comparison_of_kind k.Greater = Some Gt
comparison_of_kind k.GreaterEq = Some Ge
comparison_of_kind _ = None

-- the function of one number that a kind is
abbrev pub function_of_kind : TokenKind → Option Function
function_of_kind k.Abs = Some Size
function_of_kind _ = None

-- `min` or `max`
abbrev pub extreme_of_kind : TokenKind → Option Extreme
extreme_of_kind k.Min = Some Least
extreme_of_kind k.Max = Some Greatest
extreme_of_kind _ = None

-- the direction that a kind says
abbrev pub direction_of_kind : TokenKind → Option Direction
direction_of_kind k.Minimize = Some Minimize
direction_of_kind k.Maximize = Some Maximize
direction_of_kind _ = None

-- whether the worst scenario counts, or the expected value, as a kind says it
abbrev pub measure_of_kind : TokenKind → Option Bool
measure_of_kind k.Expected = Some false
measure_of_kind k.Worst = Some true
measure_of_kind _ = None

-- whether a range by its name ends before this kind
abbrev pub ends_range : TokenKind → Option Bool
ends_range k.Comma = Some true
ends_range k.ParenClose = Some true
ends_range k.BracketClose = Some true
ends_range k.Semi = Some true
ends_range k.Stage = Some true
ends_range _ = None

-- the number of a literal at the front
unfoldable pub literal : Option TokenKind → Option ℤ
literal = at_kind literal_value

-- the bytes of a name at the front
unfoldable pub named : Option TokenKind → Option (List ℕ)
named = at_kind name_bytes

-- the operator of a chain of products
unfoldable pub factor_operator : Option TokenKind → Option MulOp
factor_operator = at_kind factor_of_kind

-- the operator of a chain of sums: whether the next part is subtracted
unfoldable pub term_operator : Option TokenKind → Option Bool
term_operator = at_kind term_of_kind

-- the operator of a comparison
unfoldable pub comparison_operator : Option TokenKind → Option CmpOp
comparison_operator = at_kind comparison_of_kind

-- a function of one number
unfoldable pub number_function : Option TokenKind → Option Function
number_function = at_kind function_of_kind

-- `min` or `max`
unfoldable pub extreme_function : Option TokenKind → Option Extreme
extreme_function = at_kind extreme_of_kind

-- the direction of an objective
unfoldable pub goal_direction : Option TokenKind → Option Direction
goal_direction = at_kind direction_of_kind

-- whether the worst scenario counts, or the expected value
unfoldable pub goal_measure : Option TokenKind → Option Bool
goal_measure = at_kind measure_of_kind

-- whether a range by its name ends here
unfoldable pub range_end : Option TokenKind → Option Bool
range_end = at_kind ends_range

-- the token that a mark stands for
abbrev pub kind_of : Mark → TokenKind
kind_of m.Int = k.Int
kind_of m.Assign = k.Assign
kind_of m.Semi = k.Semi
kind_of m.Comma = k.Comma
kind_of m.Colon = k.Colon
kind_of m.DotDot = k.DotDot
kind_of m.Inside = k.Inside
kind_of m.Stage = k.Stage
kind_of m.Subject = k.Subject
kind_of m.To = k.To
kind_of m.Forall = k.Forall
kind_of m.Sum = k.Sum
kind_of m.All = k.All
kind_of m.Prob = k.Prob
kind_of m.AllDifferent = k.AllDifferent
kind_of m.Cumulative = k.Cumulative
kind_of m.Dvar = k.Dvar
kind_of m.Stoch = k.Stoch
kind_of m.Range = k.Range
kind_of m.ParenOpen = k.ParenOpen
kind_of m.ParenClose = k.ParenClose
kind_of m.BracketOpen = k.BracketOpen
kind_of m.BracketClose = k.BracketClose
kind_of m.BraceOpen = k.BraceOpen
kind_of m.BraceClose = k.BraceClose
kind_of m.Minus = k.Minus
kind_of m.Not = k.Not
kind_of m.AndAnd = k.AndAnd
kind_of m.OrOr = k.OrOr
kind_of m.Arrow = k.Arrow
kind_of m.GreaterEq = k.GreaterEq
kind_of m.Slash = k.Slash

-- whether a kind is the one that the mark stands for
unfoldable pub is_mark : Mark → Option TokenKind → Bool
is_mark m.Int (Some k.Int) = true
is_mark m.Assign (Some k.Assign) = true
is_mark m.Semi (Some k.Semi) = true
is_mark m.Comma (Some k.Comma) = true
is_mark m.Colon (Some k.Colon) = true
is_mark m.DotDot (Some k.DotDot) = true
is_mark m.Inside (Some k.Inside) = true
is_mark m.Stage (Some k.Stage) = true
is_mark m.Subject (Some k.Subject) = true
is_mark m.To (Some k.To) = true
is_mark m.Forall (Some k.Forall) = true
is_mark m.Sum (Some k.Sum) = true
is_mark m.All (Some k.All) = true
is_mark m.Prob (Some k.Prob) = true
is_mark m.AllDifferent (Some k.AllDifferent) = true
is_mark m.Cumulative (Some k.Cumulative) = true
is_mark m.Dvar (Some k.Dvar) = true
is_mark m.Stoch (Some k.Stoch) = true
is_mark m.Range (Some k.Range) = true
is_mark m.ParenOpen (Some k.ParenOpen) = true
is_mark m.ParenClose (Some k.ParenClose) = true
is_mark m.BracketOpen (Some k.BracketOpen) = true
is_mark m.BracketClose (Some k.BracketClose) = true
is_mark m.BraceOpen (Some k.BraceOpen) = true
is_mark m.BraceClose (Some k.BraceClose) = true
is_mark m.Minus (Some k.Minus) = true
is_mark m.Not (Some k.Not) = true
is_mark m.AndAnd (Some k.AndAnd) = true
is_mark m.OrOr (Some k.OrOr) = true
is_mark m.Arrow (Some k.Arrow) = true
is_mark m.GreaterEq (Some k.GreaterEq) = true
is_mark m.Slash (Some k.Slash) = true
is_mark mark kind = false
