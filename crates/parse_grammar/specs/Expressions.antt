-- What is read of each kind of phrase of an expression.
use Rattle.std.specs.Prelude.{ℕ, ℤ, pos, Bool, true, false, List, [], ◌∷◌, length, Option, Some, None, Ok}
use Rattle.sopl_base.specs.declared.comparison.CmpOp.{CmpOp}
use Rattle.sopl_base.specs.declared.extreme.Extreme.{Extreme}
use Rattle.sopl_ast.specs.declared.operators.Function.{Function}
use Rattle.sopl_ast.specs.declared.operators.Function.TheVariants.{Negative}
use Rattle.sopl_ast.specs.declared.operators.MulOp.{MulOp}
use Rattle.sopl_ast.specs.declared.token.Token.{Token}
use Rattle.sopl_ast.specs.ExpressionRows.{element_of}
use Rattle.sopl_ast.specs.Lists.{BinderTree, trees, terms, factors, binders}
use Rattle.sopl_ast.specs.Tree as t
use Rattle.sopl_ast.specs.Tree.{Tree, Range, Node, Named, Ends, place_of, shape_of}
use Rattle.parse_grammar.specs.declared.marks.Mark.TheVariants as m
use Rattle.parse_grammar.specs.Heads as h
use Rattle.parse_grammar.specs.Heads.{head, rest, place, is_mark}
use Rattle.parse_grammar.specs.Reading.{Read, Next, Way, ◌>>=◌, absent, past, enter, name, chain}

-- some tree, for one that is missing
abbrev pub no_tree : Tree
no_tree = Node 0 (t.Lit (pos 0))

-- some binders, for those that are missing
abbrev pub no_binders : List BinderTree
no_binders = record { name = []; at = 0; range = Ends no_tree no_tree } ∷ []

-- the expression behind an index's bracket
abbrev pub index_behind : Way → List Token → Bool → Read (Option Tree)
index_behind w ts false = Ok (None, ts)
index_behind w ts true = do
  inner ← w.inside ts
  (e, left) ← inner.expression (rest ts)
  after ← past w m.BracketClose left
  Ok (Some e, after)

-- an index, if there is one
unfoldable pub next_index : Way → Next Tree
next_index w ts = index_behind w ts (is_mark m.BracketOpen (head ts))

-- indices one behind the other
unfoldable pub indices : Way → List Token → Read (List Tree)
indices w ts = chain (next_index w) (length ts) [] ts

-- a name with its indices
unfoldable pub element : Way → List ℕ → List Token → Read Tree
element w bytes ts = do
  (found, left) ← indices w (rest ts)
  Ok (Node (place ts) (element_of bytes found), left)

-- an expression in parentheses
unfoldable pub parentheses : Way → List Token → Read Tree
parentheses w ts = do
  inner ← w.inside ts
  (e, left) ← inner.expression (rest ts)
  after ← past w m.ParenClose left
  Ok (Node (place ts) (shape_of e), after)

-- a function of one expression
unfoldable pub function_call : Way → Function → List Token → Read Tree
function_call w f ts = do
  (e, left) ← enter w m.ParenOpen no_tree (λ inner. inner.expression) (rest ts)
  after ← past w m.ParenClose left
  Ok (Node (place ts) (t.Call f e), after)

-- the least or the greatest of some expressions
unfoldable pub extreme : Way → Extreme → List Token → Read Tree
extreme w which ts = do
  (es, left) ← enter w m.ParenOpen (no_tree ∷ no_tree ∷ []) (λ inner. inner.arguments) (rest ts)
  after ← past w m.ParenClose left
  Ok (Node (place ts) (t.Selected which (trees es)), after)

-- terms that all differ
unfoldable pub all_different : Way → List Token → Read Tree
all_different w ts = do
  (inside, left) ← enter w m.ParenOpen (no_binders, no_tree) (λ inner. inner.compared) (rest ts)
  after ← past w m.ParenClose left
  Ok (Node (place ts) (t.AllDifferent (binders inside.0) inside.1), after)

-- tasks below a capacity
unfoldable pub cumulative : Way → List Token → Read Tree
cumulative w ts = do
  (inside, left) ← enter w m.ParenOpen (no_binders, ((no_tree, (no_tree, no_tree)), no_tree)) (λ inner. inner.tasks) (rest ts)
  after ← past w m.ParenClose left
  Ok (Node (place ts) (t.Cumulative (binders inside.0) inside.1.0.0 inside.1.0.1.0 inside.1.0.1.1 inside.1.1), after)

-- `cumulative`, or nothing that can begin an operand
abbrev pub cumulative_or : Way → List Token → Bool → Read Tree
cumulative_or w ts true = cumulative w ts
cumulative_or w ts false = absent w.cut (no_tree, []) ts

-- `allDifferent`, or else what follows
abbrev pub different_or : Way → List Token → Bool → Read Tree
different_or w ts true = all_different w ts
different_or w ts false = cumulative_or w ts (is_mark m.Cumulative (head ts))

-- `min` or `max`, or else what follows
abbrev pub extreme_or : Way → List Token → Option Extreme → Read Tree
extreme_or w ts (Some which) = extreme w which ts
extreme_or w ts None = different_or w ts (is_mark m.AllDifferent (head ts))

-- a function of one expression, or else what follows
abbrev pub function_or : Way → List Token → Option Function → Read Tree
function_or w ts (Some f) = function_call w f ts
function_or w ts None = extreme_or w ts (h.extreme_function (head ts))

-- an expression in parentheses, or a function of expressions
abbrev pub parentheses_or : Way → List Token → Bool → Read Tree
parentheses_or w ts true = parentheses w ts
parentheses_or w ts false = function_or w ts (h.number_function (head ts))

-- a function of expressions, or one in parentheses
unfoldable pub call : Way → List Token → Read Tree
call w ts = parentheses_or w ts (is_mark m.ParenOpen (head ts))

-- a name with its indices, or a call
abbrev pub element_or : Way → List Token → Option (List ℕ) → Read Tree
element_or w ts (Some bytes) = element w bytes ts
element_or w ts None = call w ts

-- a literal, or else what follows
abbrev pub literal_or : Way → List Token → Option ℤ → Read Tree
literal_or w ts (Some value) = Ok (Node (place ts) (t.Lit value), rest ts)
literal_or w ts None = element_or w ts (h.named (head ts))

-- a literal, a name with its indices, an expression in parentheses, or a function of expressions
unfoldable pub primary : Way → List Token → Read Tree
primary w ts = literal_or w ts (h.literal (head ts))

-- a negative operand
unfoldable pub negative : Way → List Token → Read Tree
negative w ts = do
  inner ← w.inside ts
  (e, left) ← inner.operand (rest ts)
  Ok (Node (place ts) (t.Call Negative e), left)

-- a sum over binders
unfoldable pub total : Way → List Token → Read Tree
total w ts = do
  inner ← w.inside ts
  (inside, left) ← inner.summed (rest ts)
  Ok (Node (place ts) (t.Sum (binders inside.0) inside.1), left)

-- a sum over binders, or a primary
abbrev pub total_or : Way → List Token → Bool → Read Tree
total_or w ts true = total w ts
total_or w ts false = primary w ts

-- a negative operand, or else what follows
abbrev pub negative_or : Way → List Token → Bool → Read Tree
negative_or w ts true = negative w ts
negative_or w ts false = total_or w ts (is_mark m.Sum (head ts))

-- an operand of a product
unfoldable pub operand : Way → List Token → Read Tree
operand w ts = negative_or w ts (is_mark m.Minus (head ts))

-- the operand behind an operator
abbrev pub factor_behind : Way → List Token → Option MulOp → Read (Option (MulOp × Tree))
factor_behind w ts None = Ok (None, ts)
factor_behind w ts (Some op) = do
  (e, left) ← operand w (rest ts)
  Ok (Some (op, e), left)

-- an operator of a product and its operand, if there are any
unfoldable pub next_factor : Way → Next (MulOp × Tree)
next_factor w ts = factor_behind w ts (h.factor_operator (head ts))

-- all factors behind the second one
unfoldable pub more_factors : Way → Tree → MulOp × Tree → List Token → Read Tree
more_factors w first second ts = do
  (found, left) ← chain (next_factor w) (length ts) (second ∷ []) ts
  Ok (Node (place_of first) (t.Mul first (factors found)), left)

-- one operand, or a product if another follows
abbrev pub product_from : Way → Tree → List Token → Option (MulOp × Tree) → Read Tree
product_from w first ts None = Ok (first, ts)
product_from w first ts (Some second) = more_factors w first second ts

-- one operand, or a chain of products
unfoldable pub product : Way → List Token → Read Tree
product w ts = do
  (first, left) ← operand w ts
  (second, behind) ← next_factor w left
  product_from w first behind second

-- the product behind an operator
abbrev pub term_behind : Way → List Token → Option Bool → Read (Option (Bool × Tree))
term_behind w ts None = Ok (None, ts)
term_behind w ts (Some minus) = do
  (e, left) ← product w (rest ts)
  Ok (Some (minus, e), left)

-- an operator of a sum and its part, if there are any
unfoldable pub next_term : Way → Next (Bool × Tree)
next_term w ts = term_behind w ts (h.term_operator (head ts))

-- all parts behind the second one
unfoldable pub more_terms : Way → Tree → Bool × Tree → List Token → Read Tree
more_terms w first second ts = do
  (found, left) ← chain (next_term w) (length ts) ((false, first) ∷ second ∷ []) ts
  Ok (Node (place_of first) (t.Add (terms found)), left)

-- one product, or a sum if another follows
abbrev pub sum_from : Way → Tree → List Token → Option (Bool × Tree) → Read Tree
sum_from w first ts None = Ok (first, ts)
sum_from w first ts (Some second) = more_terms w first second ts

-- one product, or a chain of sums
unfoldable pub sum : Way → List Token → Read Tree
sum w ts = do
  (first, left) ← product w ts
  (second, behind) ← next_term w left
  sum_from w first behind second

-- one sum, or the comparison with a second one
abbrev pub comparison_from : Way → Tree → List Token → Option CmpOp → Read Tree
comparison_from w first ts None = Ok (first, ts)
comparison_from w first ts (Some op) = do
  (second, left) ← sum w (rest ts)
  Ok (Node (place_of first) (t.Cmp op first second), left)

-- one sum, or one comparison of two
unfoldable pub comparison : Way → List Token → Read Tree
comparison w ts = do
  (first, left) ← sum w ts
  comparison_from w first left (h.comparison_operator (head left))

-- the negation behind its mark
unfoldable pub negated : Way → List Token → Read Tree
negated w ts = do
  inner ← w.inside ts
  (e, left) ← inner.negation (rest ts)
  Ok (Node (place ts) (t.Not e), left)

-- a negation, or a comparison
abbrev pub negated_or : Way → List Token → Bool → Read Tree
negated_or w ts true = negated w ts
negated_or w ts false = comparison w ts

-- a comparison, or the negation of one
unfoldable pub negation : Way → List Token → Read Tree
negation w ts = negated_or w ts (is_mark m.Not (head ts))

-- the negation behind `&&`
abbrev pub conjunct_behind : Way → List Token → Bool → Read (Option Tree)
conjunct_behind w ts false = Ok (None, ts)
conjunct_behind w ts true = do
  (e, left) ← negation w (rest ts)
  Ok (Some e, left)

-- `&&` and its operand, if there are any
unfoldable pub next_conjunct : Way → Next Tree
next_conjunct w ts = conjunct_behind w ts (is_mark m.AndAnd (head ts))

-- all parts behind the second one
unfoldable pub more_conjuncts : Way → Tree → Tree → List Token → Read Tree
more_conjuncts w first second ts = do
  (found, left) ← chain (next_conjunct w) (length ts) (first ∷ second ∷ []) ts
  Ok (Node (place_of first) (t.And (trees found)), left)

-- one negation, or a chain if another follows
abbrev pub conjunction_from : Way → Tree → List Token → Option Tree → Read Tree
conjunction_from w first ts None = Ok (first, ts)
conjunction_from w first ts (Some second) = more_conjuncts w first second ts

-- one negation, or a chain of `&&`
unfoldable pub conjunction : Way → List Token → Read Tree
conjunction w ts = do
  (first, left) ← negation w ts
  (second, behind) ← next_conjunct w left
  conjunction_from w first behind second

-- the conjunction behind `||`
abbrev pub disjunct_behind : Way → List Token → Bool → Read (Option Tree)
disjunct_behind w ts false = Ok (None, ts)
disjunct_behind w ts true = do
  (e, left) ← conjunction w (rest ts)
  Ok (Some e, left)

-- `||` and its operand, if there are any
unfoldable pub next_disjunct : Way → Next Tree
next_disjunct w ts = disjunct_behind w ts (is_mark m.OrOr (head ts))

-- all parts behind the second one
unfoldable pub more_disjuncts : Way → Tree → Tree → List Token → Read Tree
more_disjuncts w first second ts = do
  (found, left) ← chain (next_disjunct w) (length ts) (first ∷ second ∷ []) ts
  Ok (Node (place_of first) (t.Or (trees found)), left)

-- one conjunction, or a chain if another follows
abbrev pub disjunction_from : Way → Tree → List Token → Option Tree → Read Tree
disjunction_from w first ts None = Ok (first, ts)
disjunction_from w first ts (Some second) = more_disjuncts w first second ts

-- one conjunction, or a chain of `||`
unfoldable pub disjunction : Way → List Token → Read Tree
disjunction w ts = do
  (first, left) ← conjunction w ts
  (second, behind) ← next_disjunct w left
  disjunction_from w first behind second

-- the conclusion behind `=>`, if it stands there
abbrev pub implied : Way → Tree → List Token → Bool → Read Tree
implied w first ts false = Ok (first, ts)
implied w first ts true = do
  inner ← w.inside ts
  (second, left) ← inner.expression (rest ts)
  Ok (Node (place_of first) (t.Implies first second), left)

-- an expression: one disjunction, or an implication
unfoldable pub expression : Way → List Token → Read Tree
expression w ts = do
  (first, left) ← disjunction w ts
  implied w first left (is_mark m.Arrow (head left))

-- the argument behind a comma
abbrev pub argument_behind : Way → List Token → Bool → Read (Option Tree)
argument_behind w ts false = Ok (None, ts)
argument_behind w ts true = do
  (e, left) ← expression w (rest ts)
  Ok (Some e, left)

-- a comma and an argument, if there are any
unfoldable pub next_argument : Way → Next Tree
next_argument w ts = argument_behind w ts (is_mark m.Comma (head ts))

-- all arguments behind the second one
unfoldable pub more_arguments : Way → Tree → Tree → List Token → Read (List Tree)
more_arguments w first second ts = chain (next_argument w) (length ts) (first ∷ second ∷ []) ts

-- two arguments or more
unfoldable pub arguments : Way → List Token → Read (List Tree)
arguments w ts = do
  (first, left) ← expression w ts
  behind ← past w m.Comma left
  (second, after) ← expression w behind
  more_arguments w first second after

-- the name of a range that is one name
abbrev pub range_name_of : Option (List ℕ) → Option Bool → Option (List ℕ)
range_name_of (Some bytes) (Some ends) = Some bytes
range_name_of name ends = None

-- the name of a range that is one name, by two tokens
unfoldable pub range_name : List Token → Option (List ℕ)
range_name ts = range_name_of (h.named (head ts)) (h.range_end (head (rest ts)))

-- a range by its two ends
unfoldable pub ends : Way → List Token → Read Range
ends w ts = do
  (lo, left) ← sum w ts
  behind ← past w m.DotDot left
  (hi, after) ← sum w behind
  Ok (Ends lo hi, after)

-- a range by its name, or by its two ends
abbrev pub range_by : Way → List Token → Option (List ℕ) → Read Range
range_by w ts (Some bytes) = Ok (Named bytes (place ts), rest ts)
range_by w ts None = ends w ts

-- a range
unfoldable pub range : Way → List Token → Read Range
range w ts = range_by w ts (range_name ts)

-- a name that goes over a range
unfoldable pub binder : Way → List Token → Read BinderTree
binder w ts = do
  (named, left) ← name w ts
  behind ← past w m.Inside left
  (over, after) ← range w behind
  Ok (record { name = named.0; at = named.1; range = over }, after)

-- the binder behind a comma
abbrev pub binder_behind : Way → List Token → Bool → Read (Option BinderTree)
binder_behind w ts false = Ok (None, ts)
binder_behind w ts true = do
  (b, left) ← binder w (rest ts)
  Ok (Some b, left)

-- a comma and a binder, if there are any
unfoldable pub next_binder : Way → Next BinderTree
next_binder w ts = binder_behind w ts (is_mark m.Comma (head ts))

-- all binders behind the first one
unfoldable pub more_binders : Way → BinderTree → List Token → Read (List BinderTree)
more_binders w first ts = chain (next_binder w) (length ts) (first ∷ []) ts

-- binders, inside their parentheses
unfoldable pub bound : Way → List Token → Read (List BinderTree)
bound w ts = do
  (first, left) ← binder w ts
  more_binders w first left

-- binders in parentheses
unfoldable pub bindings : Way → List Token → Read (List BinderTree)
bindings w ts = do
  (bs, left) ← enter w m.ParenOpen no_binders (λ inner. inner.bound) ts
  after ← past w m.ParenClose left
  Ok (bs, after)

-- what stands behind `sum`
unfoldable pub summed : Way → List Token → Read (List BinderTree × Tree)
summed w ts = do
  (bs, left) ← bindings w ts
  (e, after) ← product w left
  Ok ((bs, e), after)

-- `all` with its binders
unfoldable pub all : Way → List Token → Read (List BinderTree)
all w ts = do
  left ← past w m.All ts
  bindings w left

-- what stands inside `allDifferent`
unfoldable pub compared : Way → List Token → Read (List BinderTree × Tree)
compared w ts = do
  (bs, left) ← all w ts
  (e, after) ← expression w left
  Ok ((bs, e), after)

-- the start, the length and the demand of a task
unfoldable pub task : Way → List Token → Read (Tree × (Tree × Tree))
task w ts = do
  (start, left) ← expression w ts
  behind ← past w m.Comma left
  (duration, last) ← expression w behind
  further ← past w m.Comma last
  (demand, after) ← expression w further
  Ok ((start, (duration, demand)), after)

-- what stands inside `cumulative`
unfoldable pub tasks : Way → List Token → Read (List BinderTree × ((Tree × (Tree × Tree)) × Tree))
tasks w ts = do
  (bs, left) ← all w ts
  (each, behind) ← enter w m.ParenOpen (no_tree, (no_tree, no_tree)) (λ inner. inner.task) left
  last ← past w m.ParenClose behind
  further ← past w m.Comma last
  (capacity, after) ← expression w further
  Ok ((bs, (each, capacity)), after)
