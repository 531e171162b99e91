-- The rows of expressions, ranges and binders, each below its line of the grammar. In these lines braces mean any number of times,
-- brackets at most once, and quoted words are tokens.
use Rattle.std.specs.Prelude.{ℕ, Bool, true, false, List, [], ◌∷◌, Option, Some, None, ◌⊎◌}
use mathlib.Core.Logic.{inl, inr}
use Rattle.sopl_base.specs.declared.comparison.CmpOp.{CmpOp}
use Rattle.sopl_base.specs.declared.comparison.CmpOp.TheVariants.{Eq, Ne, Lt, Le, Gt, Ge}
use Rattle.sopl_base.specs.declared.extreme.Extreme.{Extreme}
use Rattle.sopl_base.specs.declared.extreme.Extreme.TheVariants.{Least, Greatest}
use Rattle.sopl_ast.specs.declared.operators.Function.{Function}
use Rattle.sopl_ast.specs.declared.operators.Function.TheVariants.{Negative, Size}
use Rattle.sopl_ast.specs.declared.operators.MulOp.{MulOp}
use Rattle.sopl_ast.specs.declared.operators.MulOp.TheVariants.{Times, Div, Mod}
use Rattle.sopl_ast.specs.declared.token.TokenKind.TheVariants as k
use Rattle.sopl_ast.specs.Lists.{BinderTree, trees, terms, factors, binders}
use Rattle.sopl_ast.specs.Tree as t
use Rattle.sopl_ast.specs.Tree.{Tree, Shape, Range, Node, Named, Ends, place_of, shape_of}
use Rattle.sopl_ast.specs.KindSets.{KindSet, kind_number}
use Rattle.sopl_ast.specs.Terminals.{Terminal, one_of, a_literal, a_name, kinds_of}
use Rattle.sopl_ast.specs.Nonterminals as s
use Rattle.sopl_ast.specs.PhraseLanguage.{Phrase, give, terminal, deepened, not_before, lookahead, ◌then◌, ◌makes◌, ◌before◌, ◌or◌}
use Rattle.sopl_ast.specs.PhraseLanguage.{place_of_mark, enclosed, enclosed_at, operator, option, any, one_or_more}

-- "*" | "div" | "mod"
abbrev pub factor_sign : Terminal MulOp
factor_sign = one_of k.Star Times ((k.Div, Div) ∷ (k.Mod, Mod) ∷ [])

-- "+" | "-", and whether it subtracts
abbrev pub term_sign : Terminal Bool
term_sign = one_of k.Plus false ((k.Minus, true) ∷ [])

-- "==" | "!=" | "<" | "<=" | ">" | ">="
abbrev pub comparison_sign : Terminal CmpOp
comparison_sign = one_of k.EqEq Eq ((k.NotEq, Ne) ∷ (k.Less, Lt) ∷ (k.LessEq, Le) ∷ (k.Greater, Gt) ∷ (k.GreaterEq, Ge) ∷ [])

-- the functions of one number: "abs"
abbrev pub function_sign : Terminal Function
function_sign = one_of k.Abs Size []

-- "min" | "max"
abbrev pub extreme_sign : Terminal Extreme
extreme_sign = one_of k.Min Least ((k.Max, Greatest) ∷ [])

-- a name alone, or an element by its indices
abbrev pub element_of : List ℕ → List Tree → Shape
element_of bytes [] = t.Name bytes
element_of bytes (e ∷ more) = t.Index bytes (trees (e ∷ more))

-- a chain of products, or its one part
abbrev pub product_tree : Tree × List (MulOp × Tree) → Tree
product_tree (a, []) = a
product_tree (a, f ∷ more) = Node (place_of a) (t.Mul a (factors (f ∷ more)))

-- a chain of sums, or its one part
abbrev pub sum_tree : Tree × List (Bool × Tree) → Tree
sum_tree (a, []) = a
sum_tree (a, f ∷ more) = Node (place_of a) (t.Add (terms ((false, a) ∷ f ∷ more)))

-- a comparison, or its one side
abbrev pub comparison_tree : Tree × Option (CmpOp × Tree) → Tree
comparison_tree (a, None) = a
comparison_tree (a, Some x) = Node (place_of a) (t.Cmp x.0 a x.1)

-- a chain of `&&`, or its one part
abbrev pub conjunction_tree : Tree × List Tree → Tree
conjunction_tree (a, []) = a
conjunction_tree (a, b ∷ more) = Node (place_of a) (t.And (trees (a ∷ b ∷ more)))

-- a chain of `||`, or its one part
abbrev pub disjunction_tree : Tree × List Tree → Tree
disjunction_tree (a, []) = a
disjunction_tree (a, b ∷ more) = Node (place_of a) (t.Or (trees (a ∷ b ∷ more)))

-- an implication, or its one part
abbrev pub implication_tree : Tree × Option Tree → Tree
implication_tree (a, None) = a
implication_tree (a, Some b) = Node (place_of a) (t.Implies a b)

-- a range by its name, or by its two ends
abbrev pub range_tree : ((ℕ × List ℕ) × Unit {0}) ⊎ (Tree × Tree) → Range
range_tree (inl x) = Named x.0.1 x.0.0
range_tree (inr x) = Ends x.0 x.1

-- Literal
unfoldable pub literal_row : Phrase Tree
literal_row = terminal a_literal makes λ (at, value). Node at (t.Lit value)

-- Name { "[" Expr "]" }
unfoldable pub element_row : Phrase Tree
element_row =
    terminal a_name then any (enclosed k.BracketOpen s.Expression k.BracketClose)
    makes λ ((at, bytes), indices). Node at (element_of bytes indices)

-- "(" Expr ")"
unfoldable pub parentheses_row : Phrase Tree
parentheses_row = enclosed_at k.ParenOpen s.Expression k.ParenClose makes λ (at, e). Node at (shape_of e)

-- "abs" "(" Expr ")"
unfoldable pub function_row : Phrase Tree
function_row =
    terminal function_sign then enclosed k.ParenOpen s.Expression k.ParenClose
    makes λ ((at, f), e). Node at (t.Call f e)

-- ( "min" | "max" ) "(" Expr "," Expr { "," Expr } ")"
unfoldable pub extreme_row : Phrase Tree
extreme_row =
    terminal extreme_sign then enclosed k.ParenOpen s.Arguments k.ParenClose
    makes λ ((at, which), es). Node at (t.Selected which (trees es))

-- "allDifferent" "(" "all" "(" Binders ")" Expr ")"
unfoldable pub all_different_row : Phrase Tree
all_different_row =
    place_of_mark k.AllDifferent then enclosed k.ParenOpen s.Compared k.ParenClose
    makes λ (at, (bs, e)). Node at (t.AllDifferent (binders bs) e)

-- "cumulative" "(" "all" "(" Binders ")" "(" Expr "," Expr "," Expr ")" "," Expr ")"
unfoldable pub cumulative_row : Phrase Tree
cumulative_row =
    place_of_mark k.Cumulative then enclosed k.ParenOpen s.Tasks k.ParenClose
    makes λ (at, (bs, ((start, (duration, demand)), capacity))). Node at (t.Cumulative (binders bs) start duration demand capacity)

-- Prim = Literal | Name { "[" Expr "]" } | "(" Expr ")" | "abs" "(" Expr ")" | ( "min" | "max" ) "(" Expr "," Expr { "," Expr } ")"
--      | "allDifferent" "(" "all" "(" Binders ")" Expr ")"
--      | "cumulative" "(" "all" "(" Binders ")" "(" Expr "," Expr "," Expr ")" "," Expr ")"
unfoldable pub primary_row : Phrase Tree
primary_row = literal_row or element_row or parentheses_row or function_row or extreme_row or all_different_row or cumulative_row

-- "-" ( Un | Tail )
unfoldable pub negative_row : Phrase Tree
negative_row = deepened k.Minus s.Operand makes λ (at, e). Node at (t.Call Negative e)

-- "sum" "(" Binders ")" Mul
unfoldable pub total_row : Phrase Tree
total_row = deepened k.Sum s.Summed makes λ (at, (bs, e)). Node at (t.Sum (binders bs) e)

-- Un | Tail, where Un = "-" Un | Prim and Tail = "-" Tail | "sum" "(" Binders ")" Mul
unfoldable pub operand_row : Phrase Tree
operand_row = negative_row or total_row or primary_row

-- Mul = { Un ( "*" | "div" | "mod" ) } ( Un | Tail ): no operator stands behind a `sum`, so it is the last part
unfoldable pub product_row : Phrase Tree
product_row = operand_row then any (operator factor_sign operand_row) makes product_tree

-- Add = Mul { ( "+" | "-" ) Mul }
unfoldable pub sum_row : Phrase Tree
sum_row = product_row then any (operator term_sign product_row) makes sum_tree

-- Cmp = Add [ ( "==" | "!=" | "<" | "<=" | ">" | ">=" ) Add ]
unfoldable pub comparison_row : Phrase Tree
comparison_row = sum_row then option (operator comparison_sign sum_row) makes comparison_tree

-- "!" Not
unfoldable pub negated_row : Phrase Tree
negated_row = deepened k.Not s.Negation makes λ (at, e). Node at (t.Not e)

-- Not = "!" Not | Cmp
unfoldable pub negation_row : Phrase Tree
negation_row = negated_row or comparison_row

-- And = Not { "&&" Not }
unfoldable pub conjunction_row : Phrase Tree
conjunction_row = negation_row then any (k.AndAnd before negation_row) makes conjunction_tree

-- Or = And { "||" And }
unfoldable pub disjunction_row : Phrase Tree
disjunction_row = conjunction_row then any (k.OrOr before conjunction_row) makes disjunction_tree

-- "=>" Expr
unfoldable pub conclusion_row : Phrase Tree
conclusion_row = deepened k.Arrow s.Expression makes λ (at, e). e

-- Expr = Or [ "=>" Expr ]
unfoldable pub expression_row : Phrase Tree
expression_row = disjunction_row then option conclusion_row makes implication_tree

-- Expr "," Expr { "," Expr }
unfoldable pub arguments_row : Phrase (List Tree)
arguments_row = expression_row then k.Comma before one_or_more k.Comma expression_row makes λ (e, es). e ∷ es

-- the kinds that may stand behind the name of a range
abbrev pub range_closers : KindSet
range_closers = kind_number k.Comma ∷ kind_number k.ParenClose ∷ kind_number k.BracketClose ∷ kind_number k.Semi ∷ kind_number k.Stage ∷ []

-- Add ".." Add
unfoldable pub ends_row : Phrase (Tree × Tree)
ends_row = sum_row then k.DotDot before sum_row

-- Range = Name | Add ".." Add
unfoldable pub range_row : Phrase Range
range_row = lookahead a_name range_closers (give tt) ends_row makes range_tree

-- Name "in" Range
unfoldable pub binder_row : Phrase BinderTree
binder_row = terminal a_name then k.Inside before range_row makes λ ((at, bytes), range). record { name = bytes; at = at; range = range }

-- Binders = Name "in" Range { "," Name "in" Range }
unfoldable pub bound_row : Phrase (List BinderTree)
bound_row = one_or_more k.Comma binder_row

-- "(" Binders ")"
unfoldable pub bindings_row : Phrase (List BinderTree)
bindings_row = enclosed k.ParenOpen s.Bound k.ParenClose

-- "(" Binders ")" Mul, to the end of the product
unfoldable pub summed_row : Phrase (List BinderTree × Tree)
summed_row = bindings_row then not_before (kinds_of factor_sign) product_row

-- "all" "(" Binders ")" Expr
unfoldable pub compared_row : Phrase (List BinderTree × Tree)
compared_row = k.All before bindings_row then expression_row

-- Expr "," Expr "," Expr
unfoldable pub task_row : Phrase (Tree × (Tree × Tree))
task_row = expression_row then k.Comma before expression_row then k.Comma before expression_row

-- "all" "(" Binders ")" "(" Expr "," Expr "," Expr ")" "," Expr
unfoldable pub tasks_row : Phrase (List BinderTree × ((Tree × (Tree × Tree)) × Tree))
tasks_row = k.All before bindings_row then enclosed k.ParenOpen s.Task k.ParenClose then k.Comma before expression_row
