-- What is read of declarations, constraints and models, and of the phrases inside a bracket.
use Rattle.std.specs.Prelude.{ℕ, zero, suc, Bool, true, false, List, [], ◌∷◌, length, Option, Some, None, Result, Ok, Err}
use Rattle.sopl_base.specs.declared.direction.Direction.{Direction}
use Rattle.sopl_ast.specs.declared.token.Token.{Token}
use Rattle.sopl_ast.specs.ModelRows.{range_place}
use Rattle.sopl_ast.specs.Lists.{BinderTree, trees, binders}
use Rattle.sopl_ast.specs.Tree.{Tree}
use Rattle.sopl_ast.specs.Whole.{DimTree, InitTree, One, Many, inits, Declaration, IntDecl, RangeDecl, SetDecl, DvarDecl, StochDecl}
use Rattle.sopl_ast.specs.Whole.{ConsTree, ForallTree, BlockTree, HardTree, ChanceTree, conses, GoalTree, ModelTree}
use Rattle.parse_grammar.specs.declared.marks.Mark.TheVariants as m
use Rattle.parse_grammar.specs.Heads as h
use Rattle.parse_grammar.specs.Heads.{head, rest, place, is_mark}
use Rattle.parse_grammar.specs.Reading.{Stop, Depth, Read, Next, Inner, Way, ◌>>=◌, absent, past, enter, name, chain}
use Rattle.parse_grammar.specs.Expressions.{arguments, bindings, bound, compared, expression, negation, no_tree}
use Rattle.parse_grammar.specs.Expressions.{operand, range, sum, summed, task, tasks}

-- the stage behind its keyword
abbrev pub stage_behind : Way → List Token → Bool → Read (Option Tree)
stage_behind w ts false = Ok (None, ts)
stage_behind w ts true = do
  (e, left) ← sum w (rest ts)
  Ok (Some e, left)

-- a stage, or none
unfoldable pub stage : Way → List Token → Read (Option Tree)
stage w ts = stage_behind w ts (is_mark m.Stage (head ts))

-- the name that goes over a dimension
abbrev pub dim_name_of : Option (List ℕ) → Bool → Option (List ℕ)
dim_name_of (Some bytes) true = Some bytes
dim_name_of name inside = None

-- the name that goes over a dimension, by two tokens
unfoldable pub dim_name : List Token → Option (List ℕ)
dim_name ts = dim_name_of (h.named (head ts)) (is_mark m.Inside (head (rest ts)))

-- a dimension with its name, or without
abbrev pub dim_by : Way → List Token → Option (List ℕ) → Read DimTree
dim_by w ts None = do
  (over, left) ← range w ts
  Ok (record { binder = None; at = range_place over; range = over }, left)
dim_by w ts (Some bytes) = do
  (over, left) ← range w (rest (rest ts))
  Ok (record { binder = Some bytes; at = place ts; range = over }, left)

-- a dimension, inside its bracket
unfoldable pub dim : Way → List Token → Read DimTree
dim w ts = dim_by w ts (dim_name ts)

-- the dimension behind its bracket
abbrev pub dim_behind : Way → List Token → Bool → Read (Option DimTree)
dim_behind w ts false = Ok (None, ts)
dim_behind w ts true = do
  inner ← w.inside ts
  (d, left) ← inner.dim (rest ts)
  after ← past w m.BracketClose left
  Ok (Some d, after)

-- a dimension, if there is one
unfoldable pub next_dim : Way → Next DimTree
next_dim w ts = dim_behind w ts (is_mark m.BracketOpen (head ts))

-- dimensions one behind the other
unfoldable pub dims : Way → List Token → Read (List DimTree)
dims w ts = chain (next_dim w) (length ts) [] ts

-- initial values in brackets
unfoldable pub many : Way → List Token → Read InitTree
many w ts = do
  inner ← w.inside ts
  (parts, left) ← inner.inits (rest ts)
  after ← past w m.BracketClose left
  Ok (Many (place ts) (inits parts), after)

-- one initial value
unfoldable pub one : Way → List Token → Read InitTree
one w ts = do
  (e, left) ← expression w ts
  Ok (One e, left)

-- values in brackets, or one
abbrev pub init_by : Way → List Token → Bool → Read InitTree
init_by w ts true = many w ts
init_by w ts false = one w ts

-- an initial value
unfoldable pub init : Way → List Token → Read InitTree
init w ts = init_by w ts (is_mark m.BracketOpen (head ts))

-- the initial value behind a comma
abbrev pub init_behind : Way → List Token → Bool → Read (Option InitTree)
init_behind w ts false = Ok (None, ts)
init_behind w ts true = do
  (x, left) ← init w (rest ts)
  Ok (Some x, left)

-- a comma and an initial value, if there are any
unfoldable pub next_init : Way → Next InitTree
next_init w ts = init_behind w ts (is_mark m.Comma (head ts))

-- whether a list in brackets or braces ends before a token: at its closing mark, and where no token is left
abbrev pub is_over : Bool → List Token → Bool
is_over closes [] = true
is_over closes (u ∷ us) = closes

-- initial values behind the first one
unfoldable pub more_inits : Way → InitTree → List Token → Read (List InitTree)
more_inits w first ts = chain (next_init w) (length ts) (first ∷ []) ts

-- no initial value, or some
abbrev pub inits_unless : Way → List Token → Bool → Read (List InitTree)
inits_unless w ts true = Ok ([], ts)
inits_unless w ts false = do
  (first, left) ← init w ts
  more_inits w first left

-- the initial values inside a bracket
unfoldable pub init_list : Way → List Token → Read (List InitTree)
init_list w ts = inits_unless w ts (is_over (is_mark m.BracketClose (head ts)) ts)

-- the element behind a comma
abbrev pub element_behind : Way → List Token → Bool → Read (Option Tree)
element_behind w ts false = Ok (None, ts)
element_behind w ts true = do
  (e, left) ← sum w (rest ts)
  Ok (Some e, left)

-- a comma and an element, if there are any
unfoldable pub next_element : Way → Next Tree
next_element w ts = element_behind w ts (is_mark m.Comma (head ts))

-- elements behind the first one
unfoldable pub more_elements : Way → Tree → List Token → Read (List Tree)
more_elements w first ts = chain (next_element w) (length ts) (first ∷ []) ts

-- no element, or some
abbrev pub elements_unless : Way → List Token → Bool → Read (List Tree)
elements_unless w ts true = Ok ([], ts)
elements_unless w ts false = do
  (first, left) ← sum w ts
  more_elements w first left

-- the elements of a set, inside its braces
unfoldable pub elements : Way → List Token → Read (List Tree)
elements w ts = elements_unless w ts (is_over (is_mark m.BraceClose (head ts)) ts)

-- a value and its weight
unfoldable pub outcome : Way → List Token → Read (Tree × Tree)
outcome w ts = do
  (value, left) ← sum w ts
  behind ← past w m.Colon left
  (weight, after) ← sum w behind
  Ok ((value, weight), after)

-- the outcome behind a comma
abbrev pub outcome_behind : Way → List Token → Bool → Read (Option (Tree × Tree))
outcome_behind w ts false = Ok (None, ts)
outcome_behind w ts true = do
  (o, left) ← outcome w (rest ts)
  Ok (Some o, left)

-- a comma and an outcome, if there are any
unfoldable pub next_outcome : Way → Next (Tree × Tree)
next_outcome w ts = outcome_behind w ts (is_mark m.Comma (head ts))

-- outcomes behind the first one
unfoldable pub more_outcomes : Way → Tree × Tree → List Token → Read (List (Tree × Tree))
more_outcomes w first ts = chain (next_outcome w) (length ts) (first ∷ []) ts

-- the outcomes of a distribution, inside its braces
unfoldable pub outcomes : Way → List Token → Read (List (Tree × Tree))
outcomes w ts = do
  (first, left) ← outcome w ts
  more_outcomes w first left

-- a distribution
unfoldable pub distribution : Way → List Token → Read (List (Tree × Tree))
distribution w ts = do
  (found, left) ← enter w m.BraceOpen ((no_tree, no_tree) ∷ []) (λ inner. inner.outcomes) ts
  after ← past w m.BraceClose left
  Ok (found, after)

-- the name of a variable behind its keyword, with its place and dimensions
unfoldable pub variable : Way → List Token → Read ((List ℕ × ℕ) × List DimTree)
variable w ts = do
  left ← past w m.Int ts
  (named, behind) ← name w left
  (found, last) ← dims w behind
  after ← past w m.Inside last
  Ok ((named, found), after)

-- an `int`, behind its keyword
unfoldable pub integer : Way → List Token → Read Declaration
integer w ts = do
  (named, left) ← name w ts
  (found, behind) ← dims w left
  last ← past w m.Assign behind
  (value, further) ← init w last
  after ← past w m.Semi further
  Ok (IntDecl named.0 named.1 found value, after)

-- a `range`, behind its keyword
unfoldable pub range_declaration : Way → List Token → Read Declaration
range_declaration w ts = do
  (named, left) ← name w ts
  behind ← past w m.Assign left
  (lo, last) ← sum w behind
  further ← past w m.DotDot last
  (hi, final) ← sum w further
  after ← past w m.Semi final
  Ok (RangeDecl named.0 named.1 lo hi, after)

-- the elements of a set in braces, and the end of its declaration
unfoldable pub set_value : Way → List Token → Read (List Tree)
set_value w ts = do
  (found, left) ← enter w m.BraceOpen [] (λ inner. inner.elements) ts
  behind ← past w m.BraceClose left
  after ← past w m.Semi behind
  Ok (found, after)

-- a set, behind the brace of its type
unfoldable pub set : Way → List Token → Read Declaration
set w ts = do
  left ← past w m.Int ts
  behind ← past w m.BraceClose left
  (named, last) ← name w behind
  further ← past w m.Assign last
  (found, after) ← set_value w further
  Ok (SetDecl named.0 named.1 (trees found), after)

-- a decision, behind its keyword
unfoldable pub decision : Way → List Token → Read Declaration
decision w ts = do
  (head, left) ← variable w ts
  (over, behind) ← range w left
  (chosen, last) ← stage w behind
  after ← past w m.Semi last
  Ok (DvarDecl head.0.0 head.0.1 head.1 over chosen, after)

-- a stochastic variable, behind its keyword
unfoldable pub stochastic : Way → List Token → Read Declaration
stochastic w ts = do
  (head, left) ← variable w ts
  (found, behind) ← distribution w left
  (seen, last) ← stage w behind
  after ← past w m.Semi last
  Ok (StochDecl head.0.0 head.0.1 head.1 found seen, after)

-- a declaration that was read, as one that there is
abbrev pub some_read : {A : Type 0} → Read A → Read (Option A)
some_read (Ok x) = Ok (Some x.0, x.1)
some_read (Err stop) = Err stop

-- a stochastic variable, or no declaration
abbrev pub stochastic_or : Way → List Token → Bool → Read (Option Declaration)
stochastic_or w ts true = some_read (stochastic w (rest ts))
stochastic_or w ts false = Ok (None, ts)

-- a decision, or else what follows
abbrev pub decision_or : Way → List Token → Bool → Read (Option Declaration)
decision_or w ts true = some_read (decision w (rest ts))
decision_or w ts false = stochastic_or w ts (is_mark m.Stoch (head ts))

-- a set's type, and the set
unfoldable pub braced_set : Way → List Token → Read Declaration
braced_set w ts = do
  inner ← w.inside ts
  set w (rest ts)

-- a set, or else what follows
abbrev pub set_or : Way → List Token → Bool → Read (Option Declaration)
set_or w ts true = some_read (braced_set w ts)
set_or w ts false = decision_or w ts (is_mark m.Dvar (head ts))

-- a `range`, or else what follows
abbrev pub range_or : Way → List Token → Bool → Read (Option Declaration)
range_or w ts true = some_read (range_declaration w (rest ts))
range_or w ts false = set_or w ts (is_mark m.BraceOpen (head ts))

-- an `int`, or else what follows
abbrev pub integer_or : Way → List Token → Bool → Read (Option Declaration)
integer_or w ts true = some_read (integer w (rest ts))
integer_or w ts false = range_or w ts (is_mark m.Range (head ts))

-- a declaration, if there is one
unfoldable pub next_declaration : Way → Next Declaration
next_declaration w ts = integer_or w ts (is_mark m.Int (head ts))

-- declarations in order
unfoldable pub declarations : Way → List Token → Read (List Declaration)
declarations w ts = chain (next_declaration w) (length ts) [] ts

-- what an objective measures, behind its direction
abbrev pub measure_by : Way → List Token → Option Bool → Read Bool
measure_by w ts None = absent w.cut (false, []) ts
measure_by w ts (Some worst) = Ok (worst, rest ts)

-- what an objective measures
unfoldable pub measure : Way → List Token → Read Bool
measure w ts = measure_by w ts (h.goal_measure (head ts))

-- an objective behind its direction
unfoldable pub goal : Way → Direction → List Token → Read GoalTree
goal w direction ts = do
  (worst, left) ← measure w ts
  (e, behind) ← enter w m.ParenOpen no_tree (λ inner. inner.expression) left
  last ← past w m.ParenClose behind
  after ← past w m.Semi last
  Ok (record { direction = direction; worst = worst; expr = e }, after)

-- an objective of this direction, or none
abbrev pub goal_from : Way → List Token → Option Direction → Read (Option GoalTree)
goal_from w ts None = Ok (None, ts)
goal_from w ts (Some direction) = do
  (g, left) ← goal w direction (rest ts)
  Ok (Some g, left)

-- an objective, or none
unfoldable pub maybe_goal : Way → List Token → Read (Option GoalTree)
maybe_goal w ts = goal_from w ts (h.goal_direction (head ts))

-- a chance constraint, behind its keyword
unfoldable pub chance : Way → List Token → Read ConsTree
chance w ts = do
  (e, left) ← enter w m.ParenOpen no_tree (λ inner. inner.expression) ts
  behind ← past w m.ParenClose left
  last ← past w m.GreaterEq behind
  (p, further) ← sum w last
  below ← past w m.Slash further
  (q, final) ← sum w below
  after ← past w m.Semi final
  Ok (ChanceTree e p q, after)

-- a hard constraint
unfoldable pub hard : Way → List Token → Read ConsTree
hard w ts = do
  (e, left) ← expression w ts
  after ← past w m.Semi left
  Ok (HardTree e, after)

-- a constraint for each value of its binders
unfoldable pub forall_values : Way → List Token → Read ConsTree
forall_values w ts = do
  inner ← w.inside ts
  (inside, left) ← inner.quantified (rest ts)
  Ok (ForallTree (binders inside.0) inside.1, left)

-- a block of constraints
unfoldable pub block : Way → List Token → Read ConsTree
block w ts = do
  inner ← w.inside ts
  (found, left) ← inner.constraints (rest ts)
  after ← past w m.BraceClose left
  Ok (BlockTree (conses found), after)

-- a chance constraint, or a hard one
abbrev pub chance_or : Way → List Token → Bool → Read ConsTree
chance_or w ts true = chance w (rest ts)
chance_or w ts false = hard w ts

-- a block, or else what follows
abbrev pub block_or : Way → List Token → Bool → Read ConsTree
block_or w ts true = block w ts
block_or w ts false = chance_or w ts (is_mark m.Prob (head ts))

-- a constraint for each value, or else what follows
abbrev pub forall_or : Way → List Token → Bool → Read ConsTree
forall_or w ts true = forall_values w ts
forall_or w ts false = block_or w ts (is_mark m.BraceOpen (head ts))

-- a constraint
unfoldable pub constraint : Way → List Token → Read ConsTree
constraint w ts = forall_or w ts (is_mark m.Forall (head ts))

-- what stands behind `forall`
unfoldable pub quantified : Way → List Token → Read (List BinderTree × ConsTree)
quantified w ts = do
  (bs, left) ← bindings w ts
  (c, after) ← constraint w left
  Ok ((bs, c), after)

-- a constraint, unless the list is over
abbrev pub constraint_unless : Way → List Token → Bool → Read (Option ConsTree)
constraint_unless w ts true = Ok (None, ts)
constraint_unless w ts false = some_read (constraint w ts)

-- a constraint, if there is one
unfoldable pub next_constraint : Way → Next ConsTree
next_constraint w ts = constraint_unless w ts (is_over (is_mark m.BraceClose (head ts)) ts)

-- constraints in order
unfoldable pub constraints : Way → List Token → Read (List ConsTree)
constraints w ts = chain (next_constraint w) (length ts) [] ts

-- `subject to` and the constraints in braces
unfoldable pub body : Way → List Token → Read (List ConsTree)
body w ts = do
  left ← past w m.Subject ts
  behind ← past w m.To left
  (found, last) ← enter w m.BraceOpen [] (λ inner. inner.constraints) behind
  after ← past w m.BraceClose last
  Ok (found, after)

-- a model, and what is left behind it
unfoldable pub whole : Way → List Token → Read ModelTree
whole w ts = do
  (decls, left) ← declarations w ts
  (objective, behind) ← maybe_goal w left
  (conditions, after) ← body w behind
  Ok (record { decls = decls; goal = objective; body = conditions }, after)

-- all phrases, as they are read inside a bracket
unfoldable pub inner_of : Way → Inner
inner_of w = record {
  expression = expression w;
  negation = negation w;
  operand = operand w;
  summed = summed w;
  arguments = arguments w;
  compared = compared w;
  task = task w;
  tasks = tasks w;
  bound = bound w;
  dim = dim w;
  inits = init_list w;
  elements = elements w;
  outcomes = outcomes w;
  quantified = quantified w;
  constraints = constraints w;
}

-- what is read inside a bracket or behind a prefix operator where so many more may be opened
unfoldable pub deeper : Bool → ℕ → List Token → Result Inner Stop
deeper cut zero ts = Err (Depth ts)
deeper cut (suc n) ts = Ok (inner_of (record { cut = cut; inside = deeper cut n }))

-- how tokens are read where so many more brackets and prefix operators may be opened
abbrev pub way : Bool → ℕ → Way
way cut n = record { cut = cut; inside = deeper cut n }

-- what was read, if no token is left
abbrev pub finished : {A : Type 0} → A × List Token → Result A Stop
finished (a, []) = Ok a
finished (a, u ∷ us) = Err (Stop.Syntax (u ∷ us))

-- a model, and nothing behind it
unfoldable pub model : ℕ → List Token → Result ModelTree Stop
model n ts = whole (way false n) ts >>= finished
