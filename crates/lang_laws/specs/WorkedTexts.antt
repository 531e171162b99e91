-- Small texts whose instances, scenarios, values, refusals and limits are known. Each is written above its tree.
use Rattle.std.specs.Prelude.{◌≡◌, ℕ, ℤ, pos, Bool, true, false, List, [], ◌∷◌, length, map, Option, Some, None, Result, Err, codes}
use Rattle.std.specs.FinMap.{get}
use Rattle.sopl_base.specs.declared.comparison.CmpOp.TheVariants.{Eq, Le, Ge}
use Rattle.sopl_base.specs.declared.direction.Direction.TheVariants.{Minimize, Maximize}
use Rattle.sopl_base.specs.declared.fault.Fault.{Fault}
use Rattle.sopl_base.specs.declared.fault.Fault.TheVariants.{Text, Limit}
use Rattle.sopl_base.specs.declared.extreme.Extreme.TheVariants.{Least, Greatest}
use Rattle.sopl_ast.specs.declared.operators.Function.TheVariants.{Negative}
use Rattle.sopl_ast.specs.declared.operators.MulOp.{MulOp}
use Rattle.sopl_ast.specs.declared.operators.MulOp.TheVariants.{Times, Div}
use Rattle.sopl_ast.specs.Tree as t
use Rattle.sopl_ast.specs.Tree.{Tree, Node, no_tree, tree, no_term, term, no_factor, factor, no_binder, binder, Named, Ends}
use Rattle.sopl_ast.specs.Whole.{One, Many, no_init, init, Declaration, IntDecl, RangeDecl, DvarDecl, StochDecl, ConsTree, ForallTree, BlockTree, HardTree, ChanceTree, no_cons, cons, ModelTree}
use Rattle.sopl_ast.specs.Known.{Binding, Constant, nothing_known}
use Rattle.sopl_ast.specs.Constants.{value}
use Rattle.sopl_ast.specs.UnfoldEvents.{excess}
use Rattle.sopl_ast.specs.Instances.{Decision, Outcome, Stochastic, Hard, Chance, Problem, independent}
use Rattle.sopl_ast.specs.Unfolding.{problem_of}
use Rattle.sopl_ast.specs.Scenarios.{Scenario}
use Rattle.sopl_ast.specs.Histories.{histories}
use Rattle.sopl_ast.specs.Policies.{Policy}
use Rattle.sopl_ast.specs.Meanings.{Meaning, meaning}
use Rattle.sopl_ast.specs.Optimal.{place_in, holds}

-- a literal, and a name, at a place
abbrev pub lit : ℕ → ℕ → Tree
lit at n = Node at (t.Lit (pos n))

abbrev pub var : ℕ → List ℕ → Tree
var at name = Node at (t.Name name)

-- declarations alone, and constraints alone
abbrev pub stating : List Declaration → ModelTree
stating decls = record { decls = decls; goal = None; body = [] }

abbrev pub asking : List ConsTree → ModelTree
asking body = record { decls = []; goal = None; body = body }

-- a stage for each index, and outcomes that depend on it:
--     range T = 1..2; stoch int d[t in T] in {0:1, t:2} stage t; dvar int x in 0..1 stage 3; subject to { }
abbrev pub stages : ModelTree
stages = record {
  decls =
      (RangeDecl (codes "T") 6 (lit 10 1) (lit 13 2))
      ∷ (StochDecl (codes "d") 26 ((record { binder = Some (codes "t"); at = 28; range = Named (codes "T") 33 }) ∷ []) ((lit 40 0, lit 42 1) ∷ (var 45 (codes "t"), lit 47 2) ∷ [])
      (Some (var 56 (codes "t"))))
      ∷ (DvarDecl (codes "x") 68 [] (Ends (lit 73 0) (lit 76 1)) (Some (lit 84 3)))
      ∷ [];
  goal = None;
  body = [];
}

-- an order before demand is seen, and a sale after it:
--     dvar int x in 0..5 stage 1; stoch int d in {1:1, 3:1} stage 1; dvar int y in 0..3 stage 2; maximize expected(4*y - 3*x); subject to { y <= d; y
--     <= x; }
abbrev pub ordering : ModelTree
ordering = record {
  decls =
      (DvarDecl (codes "x") 9 [] (Ends (lit 14 0) (lit 17 5)) (Some (lit 25 1)))
      ∷ (StochDecl (codes "d") 38 [] ((lit 44 1, lit 46 1) ∷ (lit 49 3, lit 51 1) ∷ []) (Some (lit 60 1)))
      ∷ (DvarDecl (codes "y") 72 [] (Ends (lit 77 0) (lit 80 3)) (Some (lit 88 2)))
      ∷ [];
  goal = Some (record {
    direction = Maximize;
    worst = false;
    expr =
        Node 109 (t.Add (term false (Node 109 (t.Mul (lit 109 4) (factor Times (var 111 (codes "y")) no_factor)))
        (term true (Node 115 (t.Mul (lit 115 3) (factor Times (var 117 (codes "x")) no_factor))) no_term)));
  });
  body =
      (HardTree (Node 134 (t.Cmp Le (var 134 (codes "y")) (var 139 (codes "d")))))
      ∷ (HardTree (Node 142 (t.Cmp Le (var 142 (codes "y")) (var 147 (codes "x")))))
      ∷ [];
}

-- prices, costs and demands from arrays, with a chance constraint:
--     int n = 1; range T = 1..n; int price[T] = [7]; int cost[T] = [2]; int low[T] = [1]; int high[T] = [3]; int weight[T] = [2]; dvar int x[t in T] in
--     0..3 stage t; stoch int d[t in T] in {low[t]:1, high[t]:weight[t]} stage t; maximize expected(sum(t in T) (price[t]*min(x[t], d[t]) -
--     cost[t]*x[t])); subject to { forall(t in T) sum(s in 1..t) x[s] <= 2*t; prob(sum(t in T) x[t] >= d[1]) >= 1/4; }
abbrev pub seller : ModelTree
seller = record {
  decls =
      (IntDecl (codes "n") 4 [] (One (lit 8 1)))
      ∷ (RangeDecl (codes "T") 17 (lit 21 1) (var 24 (codes "n")))
      ∷ (IntDecl (codes "price") 31 ((record { binder = None; at = 37; range = Named (codes "T") 37 }) ∷ []) (Many 42 (init (One (lit 43 7)) no_init)))
      ∷ (IntDecl (codes "cost") 51 ((record { binder = None; at = 56; range = Named (codes "T") 56 }) ∷ []) (Many 61 (init (One (lit 62 2)) no_init)))
      ∷ (IntDecl (codes "low") 70 ((record { binder = None; at = 74; range = Named (codes "T") 74 }) ∷ []) (Many 79 (init (One (lit 80 1)) no_init)))
      ∷ (IntDecl (codes "high") 88 ((record { binder = None; at = 93; range = Named (codes "T") 93 }) ∷ []) (Many 98 (init (One (lit 99 3)) no_init)))
      ∷ (IntDecl (codes "weight") 107 ((record { binder = None; at = 114; range = Named (codes "T") 114 }) ∷ []) (Many 119 (init (One (lit 120 2)) no_init)))
      ∷ (DvarDecl (codes "x") 133 ((record { binder = Some (codes "t"); at = 135; range = Named (codes "T") 140 }) ∷ []) (Ends (lit 146 0) (lit 149 3)) (Some (var 157 (codes "t"))))
      ∷ (StochDecl (codes "d") 170 ((record { binder = Some (codes "t"); at = 172; range = Named (codes "T") 177 }) ∷ [])
      ((Node 184 (t.Index (codes "low") (tree (var 188 (codes "t")) no_tree)), lit 191 1)
      ∷ (Node 194 (t.Index (codes "high") (tree (var 199 (codes "t")) no_tree)), Node 202 (t.Index (codes "weight") (tree (var 209 (codes "t")) no_tree))) ∷ []) (Some (var 219 (codes "t"))))
      ∷ [];
  goal = Some (record {
    direction = Maximize;
    worst = false;
    expr =
        Node 240 (t.Sum (binder (codes "t") 244 (Named (codes "T") 249) no_binder)
        (Node 252 (t.Add (term false (Node 253 (t.Mul (Node 253 (t.Index (codes "price") (tree (var 259 (codes "t")) no_tree)))
        (factor Times (Node 262 (t.Selected Least (tree (Node 266 (t.Index (codes "x") (tree (var 268 (codes "t")) no_tree)))
        (tree (Node 272 (t.Index (codes "d") (tree (var 274 (codes "t")) no_tree))) no_tree)))) no_factor)))
        (term true (Node 280 (t.Mul (Node 280 (t.Index (codes "cost") (tree (var 285 (codes "t")) no_tree)))
        (factor Times (Node 288 (t.Index (codes "x") (tree (var 290 (codes "t")) no_tree))) no_factor))) no_term)))));
  });
  body =
      (ForallTree (binder (codes "t") 316 (Named (codes "T") 321) no_binder)
      (HardTree (Node 324 (t.Cmp Le (Node 324 (t.Sum (binder (codes "s") 328 (Ends (lit 333 1) (var 336 (codes "t"))) no_binder)
      (Node 339 (t.Index (codes "x") (tree (var 341 (codes "s")) no_tree))))) (Node 347 (t.Mul (lit 347 2) (factor Times (var 349 (codes "t")) no_factor)))))))
      ∷ (ChanceTree (Node 357 (t.Cmp Ge (Node 357 (t.Sum (binder (codes "t") 361 (Named (codes "T") 366) no_binder) (Node 369 (t.Index (codes "x") (tree (var 371 (codes "t")) no_tree)))))
      (Node 377 (t.Index (codes "d") (tree (lit 379 1) no_tree))))) (lit 386 1) (lit 388 4))
      ∷ [];
}

-- hard and chance constraints under one numbering:
--     range R = 1..2; subject to { forall(i in R) { i >= 1; prob(i <= 2) >= i/2; } 1 == 1; }
abbrev pub blocks : ModelTree
blocks = record {
  decls =
      (RangeDecl (codes "R") 6 (lit 10 1) (lit 13 2))
      ∷ [];
  goal = None;
  body =
      (ForallTree (binder (codes "i") 36 (Named (codes "R") 41) no_binder)
      (BlockTree (cons (HardTree (Node 46 (t.Cmp Ge (var 46 (codes "i")) (lit 51 1))))
      (cons (ChanceTree (Node 59 (t.Cmp Le (var 59 (codes "i")) (lit 64 2))) (var 70 (codes "i")) (lit 72 2)) no_cons))))
      ∷ (HardTree (Node 77 (t.Cmp Eq (lit 77 1) (lit 82 1))))
      ∷ [];
}

-- elements at an index that is decided:
--     range R = 1..2; int a[R] = [5, 7]; dvar int x in 0..3; dvar int y[R] in 0..9; maximize expected(a[x]); subject to { a[x] == 5; !(a[x] == 5); y[x]
--     == 4; }
abbrev pub elements : ModelTree
elements = record {
  decls =
      (RangeDecl (codes "R") 6 (lit 10 1) (lit 13 2))
      ∷ (IntDecl (codes "a") 20 ((record { binder = None; at = 22; range = Named (codes "R") 22 }) ∷ []) (Many 27 (init (One (lit 28 5)) (init (One (lit 31 7)) no_init))))
      ∷ (DvarDecl (codes "x") 44 [] (Ends (lit 49 0) (lit 52 3)) None)
      ∷ (DvarDecl (codes "y") 64 ((record { binder = None; at = 66; range = Named (codes "R") 66 }) ∷ []) (Ends (lit 72 0) (lit 75 9)) None)
      ∷ [];
  goal = Some (record { direction = Maximize; worst = false; expr = Node 96 (t.Index (codes "a") (tree (var 98 (codes "x")) no_tree)) });
  body =
      (HardTree (Node 116 (t.Cmp Eq (Node 116 (t.Index (codes "a") (tree (var 118 (codes "x")) no_tree))) (lit 124 5))))
      ∷ (HardTree (Node 127 (t.Not (Node 128 (t.Cmp Eq (Node 129 (t.Index (codes "a") (tree (var 131 (codes "x")) no_tree))) (lit 137 5))))))
      ∷ (HardTree (Node 141 (t.Cmp Eq (Node 141 (t.Index (codes "y") (tree (var 143 (codes "x")) no_tree))) (lit 149 4))))
      ∷ [];
}

-- three that differ among two values:
--     range R = 1..3; dvar int x[R] in 1..2; subject to { allDifferent(all(i in R) x[i]); }
abbrev pub different : ModelTree
different = record {
  decls =
      (RangeDecl (codes "R") 6 (lit 10 1) (lit 13 3))
      ∷ (DvarDecl (codes "x") 25 ((record { binder = None; at = 27; range = Named (codes "R") 27 }) ∷ []) (Ends (lit 33 1) (lit 36 2)) None)
      ∷ [];
  goal = None;
  body =
      (HardTree (Node 52 (t.AllDifferent (binder (codes "i") 69 (Named (codes "R") 74) no_binder) (Node 77 (t.Index (codes "x") (tree (var 79 (codes "i")) no_tree))))))
      ∷ [];
}

-- two tasks on one machine:
--     range R = 1..2; dvar int s[R] in 0..3; minimize expected(max(s[1] + 2, s[2] + 2)); subject to { cumulative(all(i in R) (s[i], 2, 1), 1); s[1] <=
--     s[2]; }
abbrev pub tasks : ModelTree
tasks = record {
  decls =
      (RangeDecl (codes "R") 6 (lit 10 1) (lit 13 2))
      ∷ (DvarDecl (codes "s") 25 ((record { binder = None; at = 27; range = Named (codes "R") 27 }) ∷ []) (Ends (lit 33 0) (lit 36 3)) None)
      ∷ [];
  goal = Some (record {
    direction = Minimize;
    worst = false;
    expr =
        Node 57 (t.Selected Greatest (tree (Node 61 (t.Add (term false (Node 61 (t.Index (codes "s") (tree (lit 63 1) no_tree))) (term false (lit 68 2) no_term))))
        (tree (Node 71 (t.Add (term false (Node 71 (t.Index (codes "s") (tree (lit 73 2) no_tree))) (term false (lit 78 2) no_term)))) no_tree)));
  });
  body =
      (HardTree (Node 96 (t.Cumulative (binder (codes "i") 111 (Named (codes "R") 116) no_binder) (Node 120 (t.Index (codes "s") (tree (var 122 (codes "i")) no_tree))) (lit 126 2)
      (lit 129 1) (lit 133 1))))
      ∷ (HardTree (Node 137 (t.Cmp Le (Node 137 (t.Index (codes "s") (tree (lit 139 1) no_tree))) (Node 145 (t.Index (codes "s") (tree (lit 147 2) no_tree))))))
      ∷ [];
}

-- sums over a range, and over an empty one:
--     range T = 1..2; range R = 1..300; stoch int d[T] in {0:1, 1:1}; subject to { sum(i in R) i >= 0; sum(i in 1..0) i == 0; }
abbrev pub sums : ModelTree
sums = record {
  decls =
      (RangeDecl (codes "T") 6 (lit 10 1) (lit 13 2))
      ∷ (RangeDecl (codes "R") 22 (lit 26 1) (lit 29 300))
      ∷ (StochDecl (codes "d") 44 ((record { binder = None; at = 46; range = Named (codes "T") 46 }) ∷ []) ((lit 53 0, lit 55 1) ∷ (lit 58 1, lit 60 1) ∷ []) None)
      ∷ [];
  goal = None;
  body =
      (HardTree (Node 77 (t.Cmp Ge (Node 77 (t.Sum (binder (codes "i") 81 (Named (codes "R") 86) no_binder) (var 89 (codes "i")))) (lit 94 0))))
      ∷ (HardTree (Node 97 (t.Cmp Eq (Node 97 (t.Sum (binder (codes "i") 101 (Ends (lit 106 1) (lit 109 0)) no_binder) (var 112 (codes "i")))) (lit 117 0))))
      ∷ [];
}

-- 65 decisions of 16 bits:
--     range R = 1..65; dvar int x[R] in 0..65535; subject to { }
abbrev pub bits : ModelTree
bits = record {
  decls =
      (RangeDecl (codes "R") 6 (lit 10 1) (lit 13 65))
      ∷ (DvarDecl (codes "x") 26 ((record { binder = None; at = 28; range = Named (codes "R") 28 }) ∷ []) (Ends (lit 34 0) (lit 37 65535)) None)
      ∷ [];
  goal = None;
  body = [];
}

-- weights of 2^100 and twice that:
--     stoch int a in {0:1099511627776}; stoch int b in {0:1099511627776}; stoch int c in {0:1048576}; stoch int e in {0:2}; subject to { }
abbrev pub heavy : ModelTree
heavy = record {
  decls =
      (StochDecl (codes "a") 10 [] ((lit 16 0, lit 18 1099511627776) ∷ []) None)
      ∷ (StochDecl (codes "b") 44 [] ((lit 50 0, lit 52 1099511627776) ∷ []) None)
      ∷ (StochDecl (codes "c") 78 [] ((lit 84 0, lit 86 1048576) ∷ []) None)
      ∷ (StochDecl (codes "e") 106 [] ((lit 112 0, lit 114 2) ∷ []) None)
      ∷ [];
  goal = None;
  body = [];
}

-- int n = 1 div 0; subject to { }
abbrev pub by_zero : ModelTree
by_zero = record {
  decls =
      (IntDecl (codes "n") 4 [] (One (Node 8 (t.Mul (lit 8 1) (factor Div (lit 14 0) no_factor)))))
      ∷ [];
  goal = None;
  body = [];
}

-- dvar int x in 3..2; subject to { }
abbrev pub empty_domain : ModelTree
empty_domain = record {
  decls =
      (DvarDecl (codes "x") 9 [] (Ends (lit 14 3) (lit 17 2)) None)
      ∷ [];
  goal = None;
  body = [];
}

-- range R = 1..2; int a[R] = [5]; subject to { }
abbrev pub short_bracket : ModelTree
short_bracket = record {
  decls =
      (RangeDecl (codes "R") 6 (lit 10 1) (lit 13 2))
      ∷ (IntDecl (codes "a") 20 ((record { binder = None; at = 22; range = Named (codes "R") 22 }) ∷ []) (Many 27 (init (One (lit 28 5)) no_init)))
      ∷ [];
  goal = None;
  body = [];
}

-- stoch int d in {1:0} stage 1; subject to { }
abbrev pub no_weight : ModelTree
no_weight = record {
  decls =
      (StochDecl (codes "d") 10 [] ((lit 16 1, lit 18 0) ∷ []) (Some (lit 27 1)))
      ∷ [];
  goal = None;
  body = [];
}

-- dvar int x in 0..1 stage 25; subject to { }
abbrev pub late_stage : ModelTree
late_stage = record {
  decls =
      (DvarDecl (codes "x") 9 [] (Ends (lit 14 0) (lit 17 1)) (Some (lit 25 25)))
      ∷ [];
  goal = None;
  body = [];
}

-- subject to { prob(1 == 2) >= 3/2; }
abbrev pub threshold : ModelTree
threshold = record {
  decls = [];
  goal = None;
  body =
      (ChanceTree (Node 18 (t.Cmp Eq (lit 18 1) (lit 23 2))) (lit 29 3) (lit 31 2))
      ∷ [];
}

-- dvar int x in 0..65536; subject to { }
abbrev pub wide_domain : ModelTree
wide_domain = record {
  decls =
      (DvarDecl (codes "x") 9 [] (Ends (lit 14 0) (lit 17 65536)) None)
      ∷ [];
  goal = None;
  body = [];
}

-- range R = 1..65537; subject to { }
abbrev pub long_range : ModelTree
long_range = record {
  decls =
      (RangeDecl (codes "R") 6 (lit 10 1) (lit 13 65537))
      ∷ [];
  goal = None;
  body = [];
}

-- range R = 1..3; subject to { forall(i in R, j in R) 1 == 1; }
abbrev pub pairs : ModelTree
pairs = record {
  decls =
      (RangeDecl (codes "R") 6 (lit 10 1) (lit 13 3))
      ∷ [];
  goal = None;
  body =
      (ForallTree (binder (codes "i") 36 (Named (codes "R") 41) (binder (codes "j") 44 (Named (codes "R") 49) no_binder)) (HardTree (Node 52 (t.Cmp Eq (lit 52 1) (lit 57 1)))))
      ∷ [];
}

-- subject to { prob(1 == 1) >= -1/(1 div 0); }
abbrev pub two_numbers : ModelTree
two_numbers = record {
  decls = [];
  goal = None;
  body =
      (ChanceTree (Node 18 (t.Cmp Eq (lit 18 1) (lit 23 1))) (Node 29 (t.Call Negative (lit 30 1))) (Node 32 (t.Mul (lit 33 1) (factor Div (lit 39 0) no_factor))))
      ∷ [];
}

-- What is said of them.

-- a refusal, and a limit that is passed
abbrev pub refusal : ℕ → ℕ → Result ℕ Fault
refusal code at = Err (Text (record { code = code; at = at }))

abbrev pub limit : ℕ → ℕ → ℕ → Result ℕ Fault
limit code counted most = Err (Limit (excess code (pos counted) (pos most)))

-- the values and the weights of scenarios
abbrev pub values_of : List Scenario → List (List ℤ)
values_of list = map (λ (s : Scenario). s.values) list

abbrev pub weights_of : List Scenario → List ℤ
weights_of list = map (λ (s : Scenario). s.weight) list

-- how many histories stages have
abbrev pub history_counts : List ℕ → List Stochastic → List ℕ
history_counts stages stochastics = map (λ stage. length (histories stage stochastics)) stages

-- an element of a constant, a decision, a stochastic variable with two outcomes, and a hard and a chance constraint
abbrev pub element : List ℕ → List ℤ → ℤ → Constant
element name index value = record { name = name; index = index; value = value }

abbrev pub decision : List ℕ → List ℤ → ℤ → ℤ → ℕ → Decision
decision name index lo hi stage = record { name = name; index = index; lo = lo; hi = hi; stage = stage }

abbrev pub outcome : ℤ → ℤ → Outcome
outcome value weight = record { value = value; weight = weight }

abbrev pub stochastic : List ℕ → List ℤ → List Outcome → ℕ → Stochastic
stochastic name index outcomes stage = independent name index outcomes stage

abbrev pub bound_to : List ℕ → ℤ → List Binding
bound_to name value = (record { name = name; value = value }) ∷ []

abbrev pub hard : ℕ → List Binding → Hard
hard text bound = record { text = text; bound = bound }

abbrev pub chance : ℕ → List Binding → ℤ → ℤ → Chance
chance text bound p q = record { text = text; bound = bound; p = p; q = q }

-- one number divided by another, as an expression
abbrev pub quotient : MulOp → Tree → Tree → Tree
quotient op a b = Node 0 (t.Mul a (factor op b no_factor))

abbrev pub minus : Tree → Tree
minus e = Node 0 (t.Call Negative e)

-- 7 and 2 with each pair of signs
abbrev pub quotients : MulOp → List Tree
quotients op =
    quotient op (lit 0 7) (lit 0 2)
    ∷ quotient op (minus (lit 0 7)) (lit 0 2)
    ∷ quotient op (lit 0 7) (minus (lit 0 2))
    ∷ quotient op (minus (lit 0 7)) (minus (lit 0 2))
    ∷ []

-- 2^40 times a number
abbrev pub times_greatest : ℕ → Tree
times_greatest n = Node 0 (t.Mul (lit 0 1099511627776) (factor Times (lit 0 n) no_factor))

-- the sum over i from 1 to a number, and the sum over no i
abbrev pub sum_to : ℕ → Tree
sum_to n = Node 0 (t.Sum (binder (codes "i") 0 (Ends (lit 0 1) (lit 0 n)) no_binder) (var 0 (codes "i")))

-- the problem of no text
abbrev pub nothing : Problem
nothing = record { known = nothing_known; decisions = []; stochastics = []; conditions = []; hards = []; chances = []; objective = None }

-- the one scenario without stochastic variables
abbrev pub sole : Scenario
sole = record { values = []; weight = pos 1 }

-- what an expression is worth as a constant, and what it means where nothing is declared
abbrev pub constant : Tree → Option ℤ
constant e = value nothing_known e

abbrev pub meant : Policy → Tree → Meaning
meant policy e = meaning (place_in nothing policy [] sole) e

-- a policy decides what is written, at the one history of stage 1
abbrev pub Decides : Policy → ℕ → ℤ → Type 0
Decides policy number x = get policy (number, []) ≡ Some x

-- whether the constraint with this number is true in the one scenario
abbrev pub holds_in : ModelTree → Policy → ℕ → Bool
holds_in model policy number = holds (problem_of model) policy number [] sole
