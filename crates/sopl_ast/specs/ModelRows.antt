-- The rows of declarations, objectives, constraints and models, each below its line of the grammar, and the row of each nonterminal.
use Rattle.std.specs.Prelude.{ℕ, Bool, true, false, List, [], ◌∷◌, Option, Some, None, ◌⊎◌}
use mathlib.Core.Logic.{inl, inr}
use Rattle.sopl_base.specs.declared.direction.Direction.{Direction}
use Rattle.sopl_base.specs.declared.direction.Direction.TheVariants.{Minimize, Maximize}
use Rattle.sopl_ast.specs.declared.token.TokenKind.TheVariants as k
use Rattle.sopl_ast.specs.Lists.{BinderTree, trees, binders}
use Rattle.sopl_ast.specs.Tree.{Tree, Range, Named, Ends, place_of}
use Rattle.sopl_ast.specs.Whole.{DimTree, InitTree, One, Many, inits, Declaration, IntDecl, RangeDecl, SetDecl, DvarDecl, StochDecl}
use Rattle.sopl_ast.specs.Whole.{ConsTree, ForallTree, BlockTree, HardTree, ChanceTree, conses, GoalTree, ModelTree}
use Rattle.sopl_ast.specs.KindSets.{only}
use Rattle.sopl_ast.specs.Terminals.{Terminal, one_of, a_name}
use Rattle.sopl_ast.specs.Nonterminals as s
use Rattle.sopl_ast.specs.Nonterminals.{Nonterminal, ValueOf}
use Rattle.sopl_ast.specs.PhraseLanguage.{Phrase, terminal, deepened, lookahead, ◌then◌, ◌makes◌, ◌before◌, ◌closed_by◌, ◌or◌}
use Rattle.sopl_ast.specs.PhraseLanguage.{place_of_mark, enclosed, enclosed_at, option, any, any_until, one_or_more, unless_closed}
use Rattle.sopl_ast.specs.ExpressionRows.{expression_row, negation_row, operand_row, sum_row, summed_row, arguments_row, compared_row}
use Rattle.sopl_ast.specs.ExpressionRows.{task_row, tasks_row, range_row, bound_row, bindings_row}

-- "minimize" | "maximize"
abbrev pub direction_sign : Terminal Direction
direction_sign = one_of k.Minimize Minimize ((k.Maximize, Maximize) ∷ [])

-- "expected" | "worst", and whether the worst scenario counts
abbrev pub measure_sign : Terminal Bool
measure_sign = one_of k.Expected false ((k.Worst, true) ∷ [])

-- the place of a range: that of its name, or of its lower end
abbrev pub range_place : Range → ℕ
range_place (Named bytes at) = at
range_place (Ends lo hi) = place_of lo

-- a dimension with a name that goes over it, or without
abbrev pub dim_tree : ((ℕ × List ℕ) × Range) ⊎ Range → DimTree
dim_tree (inl x) = record { binder = Some x.0.1; at = x.0.0; range = x.1 }
dim_tree (inr range) = record { binder = None; at = range_place range; range = range }

-- [ Name "in" ] Range
unfoldable pub dim_row : Phrase DimTree
dim_row = lookahead a_name (only k.Inside) (k.Inside before range_row) range_row makes dim_tree

-- { Dim }, where Dim = "[" [ Name "in" ] Range "]"
unfoldable pub dims_row : Phrase (List DimTree)
dims_row = any (enclosed k.BracketOpen s.Dim k.BracketClose)

-- [ "stage" Add ]
unfoldable pub stage_row : Phrase (Option Tree)
stage_row = option (k.Stage before sum_row)

-- "[" [ Init { "," Init } ] "]"
unfoldable pub init_list_row : Phrase InitTree
init_list_row = enclosed_at k.BracketOpen s.Inits k.BracketClose makes λ (at, parts). Many at (inits parts)

-- Init = Expr | "[" [ Init { "," Init } ] "]"
unfoldable pub init_row : Phrase InitTree
init_row = init_list_row or (expression_row makes One)

-- [ Init { "," Init } ]
unfoldable pub inits_row : Phrase (List InitTree)
inits_row = unless_closed k.BracketClose (one_or_more k.Comma init_row)

-- [ Add { "," Add } ]
unfoldable pub elements_row : Phrase (List Tree)
elements_row = unless_closed k.BraceClose (one_or_more k.Comma sum_row)

-- Add ":" Add
unfoldable pub outcome_row : Phrase (Tree × Tree)
outcome_row = sum_row then k.Colon before sum_row

-- Add ":" Add { "," Add ":" Add }
unfoldable pub outcomes_row : Phrase (List (Tree × Tree))
outcomes_row = one_or_more k.Comma outcome_row

-- Dist = "{" Add ":" Add { "," Add ":" Add } "}"
unfoldable pub distribution_row : Phrase (List (Tree × Tree))
distribution_row = enclosed k.BraceOpen s.Outcomes k.BraceClose

-- "int" Name { Dim } "=" Init ";"
unfoldable pub integer_row : Phrase Declaration
integer_row =
    k.Int before terminal a_name then dims_row then k.Assign before init_row closed_by k.Semi
    makes λ ((at, bytes), (dims, value)). IntDecl bytes at dims value

-- "range" Name "=" Add ".." Add ";"
unfoldable pub range_declaration_row : Phrase Declaration
range_declaration_row =
    k.Range before terminal a_name then k.Assign before sum_row then k.DotDot before sum_row closed_by k.Semi
    makes λ ((at, bytes), (lo, hi)). RangeDecl bytes at lo hi

-- "{" "int" "}" Name "=" "{" [ Add { "," Add } ] "}" ";"
unfoldable pub set_row : Phrase Declaration
set_row =
    enclosed k.BraceOpen s.IntType k.BraceClose then terminal a_name then
    k.Assign before enclosed k.BraceOpen s.Elements k.BraceClose closed_by k.Semi
    makes λ (type, ((at, bytes), elements)). SetDecl bytes at (trees elements)

-- "dvar" "int" Name { Dim } "in" Range [ "stage" Add ] ";"
unfoldable pub decision_row : Phrase Declaration
decision_row =
    k.Dvar before k.Int before terminal a_name then dims_row then k.Inside before range_row then stage_row closed_by k.Semi
    makes λ ((at, bytes), (dims, (range, stage))). DvarDecl bytes at dims range stage

-- "stoch" "int" Name { Dim } "in" Dist [ "stage" Add ] ";"
unfoldable pub stochastic_row : Phrase Declaration
stochastic_row =
    k.Stoch before k.Int before terminal a_name then dims_row then k.Inside before distribution_row then stage_row closed_by k.Semi
    makes λ ((at, bytes), (dims, (dist, stage))). StochDecl bytes at dims dist stage

-- Decl = one of these
unfoldable pub declaration_row : Phrase Declaration
declaration_row = integer_row or range_declaration_row or set_row or decision_row or stochastic_row

-- Goal = ( "minimize" | "maximize" ) ( "expected" | "worst" ) "(" Expr ")" ";"
unfoldable pub goal_row : Phrase GoalTree
goal_row =
    terminal direction_sign then terminal measure_sign then enclosed k.ParenOpen s.Expression k.ParenClose closed_by k.Semi
    makes λ ((at, direction), ((place, worst), e)). record { direction = direction; worst = worst; expr = e }

-- Chance ";", where Chance = "prob" "(" Expr ")" ">=" Add "/" Add
unfoldable pub chance_row : Phrase ConsTree
chance_row =
    k.Prob before enclosed k.ParenOpen s.Expression k.ParenClose then
    k.GreaterEq before sum_row then k.Slash before sum_row closed_by k.Semi
    makes λ (e, (p, q)). ChanceTree e p q

-- Expr ";"
unfoldable pub hard_row : Phrase ConsTree
hard_row = expression_row closed_by k.Semi makes HardTree

-- "forall" "(" Binders ")" Cons
unfoldable pub forall_row : Phrase ConsTree
forall_row = deepened k.Forall s.Quantified makes λ (at, (bs, c)). ForallTree (binders bs) c

-- "{" { Cons } "}"
unfoldable pub block_row : Phrase ConsTree
block_row = enclosed k.BraceOpen s.Constraints k.BraceClose makes λ cs. BlockTree (conses cs)

-- Cons = "forall" "(" Binders ")" Cons | "{" { Cons } "}" | Chance ";" | Expr ";"
unfoldable pub constraint_row : Phrase ConsTree
constraint_row = forall_row or block_row or chance_row or hard_row

-- "(" Binders ")" Cons
unfoldable pub quantified_row : Phrase (List BinderTree × ConsTree)
quantified_row = bindings_row then constraint_row

-- { Cons }
unfoldable pub constraints_row : Phrase (List ConsTree)
constraints_row = any_until k.BraceClose constraint_row

-- "subject" "to" "{" { Cons } "}"
unfoldable pub body_row : Phrase (List ConsTree)
body_row = k.Subject before k.To before enclosed k.BraceOpen s.Constraints k.BraceClose

-- Model = { Decl } [ Goal ] "subject" "to" "{" { Cons } "}"
unfoldable pub model_row : Phrase ModelTree
model_row =
    any declaration_row then option goal_row then body_row
    makes λ (decls, (goal, body)). record { decls = decls; goal = goal; body = body }

-- the row of each nonterminal
abbrev pub row : (s : Nonterminal) → Phrase (ValueOf s)
row s.Model = model_row
row s.Expression = expression_row
row s.Negation = negation_row
row s.Operand = operand_row
row s.Summed = summed_row
row s.Arguments = arguments_row
row s.Compared = compared_row
row s.Task = task_row
row s.Tasks = tasks_row
row s.Bound = bound_row
row s.Dim = dim_row
row s.Inits = inits_row
row s.IntType = place_of_mark k.Int
row s.Elements = elements_row
row s.Outcomes = outcomes_row
row s.Constraints = constraints_row
row s.Quantified = quantified_row
