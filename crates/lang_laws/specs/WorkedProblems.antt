-- Small texts of which the constants, the instances and the sizes are known. Each is written above its tree.
use Rattle.std.specs.Prelude.{true, false, [], ◌∷◌, Some, None, codes}
use Rattle.sopl_base.specs.declared.comparison.CmpOp.TheVariants.{Eq, Lt, Le, Ge}
use Rattle.sopl_base.specs.declared.direction.Direction.TheVariants.{Minimize}
use Rattle.sopl_base.specs.declared.extreme.Extreme.TheVariants.{Least, Greatest}
use Rattle.sopl_ast.specs.declared.operators.Function.TheVariants.{Negative, Size}
use Rattle.sopl_ast.specs.declared.operators.MulOp.TheVariants.{Times, Div, Mod}
use Rattle.sopl_ast.specs.Tree as t
use Rattle.sopl_ast.specs.Tree.{Node, no_tree, tree, no_term, term, no_factor, factor, no_binder, binder, Named, Ends}
use Rattle.sopl_ast.specs.Whole.{One, Many, no_init, init, IntDecl, RangeDecl, SetDecl, DvarDecl, StochDecl, ForallTree, BlockTree, HardTree, ChanceTree, no_cons, cons, ModelTree}
use Rattle.lang_laws.specs.WorkedTexts.{lit, var, stating, asking}

-- The elements of constants.

-- a sum is tested as a whole:
--     int n = 1099511627776 + 1 - 1; subject to { }
abbrev pub within_sum : ModelTree
within_sum = stating ((IntDecl (codes "n") 4 [] (One (Node 8 (t.Add (term false (lit 8 1099511627776) (term false (lit 24 1) (term true (lit 28 1) no_term))))))) ∷ [])

-- int n = sum(i in 1..3) (2-i)*1099511627776; subject to { }
abbrev pub within_terms : ModelTree
within_terms = stating ((IntDecl (codes "n") 4 [] (One (Node 8
    (t.Sum (binder (codes "i") 12 (Ends (lit 17 1) (lit 20 3)) no_binder)
    (Node 23 (t.Mul (Node 23 (t.Add (term false (lit 24 2) (term true (var 26 (codes "i")) no_term)))) (factor Times (lit 29 1099511627776) no_factor))))))) ∷ [])

-- brackets of empty arrays, and one expression for no element:
--     int a[1..0] = []; int b[1..2][1..0] = [[], []]; int c[1..0][1..2] = 1 div 0; subject to { }
abbrev pub empty_arrays : ModelTree
empty_arrays =
    stating (
    (IntDecl (codes "a") 4 ((record { binder = None; at = 6; range = Ends (lit 6 1) (lit 9 0) }) ∷ []) (Many 14 no_init))
    ∷ (IntDecl (codes "b") 22 ((record { binder = None; at = 24; range = Ends (lit 24 1) (lit 27 2) }) ∷ (record { binder = None; at = 30; range = Ends (lit 30 1) (lit 33 0) }) ∷ [])
    (Many 38 (init (Many 39 no_init) (init (Many 43 no_init) no_init))))
    ∷ (IntDecl (codes "c") 52 ((record { binder = None; at = 54; range = Ends (lit 54 1) (lit 57 0) }) ∷ (record { binder = None; at = 60; range = Ends (lit 60 1) (lit 63 2) }) ∷ [])
    (One (Node 68 (t.Mul (lit 68 1) (factor Div (lit 74 0) no_factor)))))
    ∷ [])

-- a later range is not looked at where the earlier one is empty:
--     int n = sum(i in 1..0, j in 1..(1 div 0)) 1; subject to { }
abbrev pub no_inner_range : ModelTree
no_inner_range = stating ((IntDecl (codes "n") 4 [] (One (Node 8
    (t.Sum (binder (codes "i") 12 (Ends (lit 17 1) (lit 20 0)) (binder (codes "j") 23 (Ends (lit 28 1) (Node 31 (t.Mul (lit 32 1) (factor Div (lit 38 0) no_factor)))) no_binder)) (lit 42 1))))) ∷ [])

-- the names of dimensions stand for indices inside a bracket too:
--     int a[i in 1..2][j in 2..3] = [[i*j, i+j], [i-j, j]]; subject to { }
abbrev pub bracket_names : ModelTree
bracket_names = stating ((IntDecl (codes "a") 4 ((record { binder = Some (codes "i"); at = 6; range = Ends (lit 11 1) (lit 14 2) })
    ∷ (record { binder = Some (codes "j"); at = 17; range = Ends (lit 22 2) (lit 25 3) }) ∷ [])
    (Many 30 (init (Many 31 (init (One (Node 32 (t.Mul (var 32 (codes "i")) (factor Times (var 34 (codes "j")) no_factor))))
    (init (One (Node 37 (t.Add (term false (var 37 (codes "i")) (term false (var 39 (codes "j")) no_term))))) no_init)))
    (init (Many 43 (init (One (Node 44 (t.Add (term false (var 44 (codes "i")) (term true (var 46 (codes "j")) no_term))))) (init (One (var 49 (codes "j"))) no_init))) no_init)))) ∷ [])

-- conditions as numbers:
--     int n = (1 < 2) + 3*(2 == 2 && !(1 == 1)) + (1 == 2 => 0 == 1) + (0 == 1 || 5 >= 5); subject to { }
abbrev pub conditions_counted : ModelTree
conditions_counted = stating ((IntDecl (codes "n") 4 [] (One
    (Node 8 (t.Add (term false (Node 8 (t.Cmp Lt (lit 9 1) (lit 13 2)))
    (term false (Node 18 (t.Mul (lit 18 3) (factor Times (Node 20 (t.And (tree (Node 21 (t.Cmp Eq (lit 21 2) (lit 26 2))) (tree (Node 31 (t.Not (Node 32 (t.Cmp Eq (lit 33 1) (lit 38 1))))) no_tree))))
    no_factor))) (term false (Node 44 (t.Implies (Node 45 (t.Cmp Eq (lit 45 1) (lit 50 2))) (Node 55 (t.Cmp Eq (lit 55 0) (lit 60 1)))))
    (term false (Node 65 (t.Or (tree (Node 66 (t.Cmp Eq (lit 66 0) (lit 71 1))) (tree (Node 76 (t.Cmp Ge (lit 76 5) (lit 81 5))) no_tree)))) no_term)))))))) ∷ [])

-- functions of constants:
--     int n = abs(-7) + 10*min(3, 2) + 100*max(2, 3, 1) + 1000*allDifferent(all(i in 1..2) i) + 10000*allDifferent(all(i in 1..2) 3) + 100000*(1
--     == 1 => 0 == 1) + 1000000*(1 == 1 && 2 == 2); subject to { }
abbrev pub functions_counted : ModelTree
functions_counted = stating ((IntDecl (codes "n") 4 [] (One (Node 8
    (t.Add (term false (Node 8 (t.Call Size (Node 12 (t.Call Negative (lit 13 7)))))
    (term false (Node 18 (t.Mul (lit 18 10) (factor Times (Node 21 (t.Selected Least (tree (lit 25 3) (tree (lit 28 2) no_tree)))) no_factor)))
    (term false (Node 33 (t.Mul (lit 33 100) (factor Times (Node 37 (t.Selected Greatest (tree (lit 41 2) (tree (lit 44 3) (tree (lit 47 1) no_tree))))) no_factor)))
    (term false (Node 52 (t.Mul (lit 52 1000) (factor Times (Node 57 (t.AllDifferent (binder (codes "i") 74 (Ends (lit 79 1) (lit 82 2)) no_binder) (var 85 (codes "i")))) no_factor)))
    (term false (Node 90 (t.Mul (lit 90 10000) (factor Times (Node 96 (t.AllDifferent (binder (codes "i") 113 (Ends (lit 118 1) (lit 121 2)) no_binder) (lit 124 3))) no_factor)))
    (term false (Node 129 (t.Mul (lit 129 100000) (factor Times (Node 136 (t.Implies (Node 137 (t.Cmp Eq (lit 137 1) (lit 142 1))) (Node 147 (t.Cmp Eq (lit 147 0) (lit 152 1))))) no_factor)))
    (term false (Node 157 (t.Mul (lit 157 1000000) (factor Times (Node 165 (t.And (tree (Node 166 (t.Cmp Eq (lit 166 1) (lit 171 1))) (tree (Node 176 (t.Cmp Eq (lit 176 2) (lit 181 2))) no_tree))))
    no_factor))) no_term))))))))))) ∷ [])

-- tasks of constants: at one time, one behind the other, none under a negative capacity, of no length, of a negative length:
--     int n = cumulative(all(i in 1..2) (i, 1, 1), sum(i in 1..1) i) + allDifferent(all(i in 1..0) i) + 10*cumulative(all(i in 1..2) (i, 2, 1), 1)
--     + 100*cumulative(all(i in 1..0) (i, 1, 1), -1) + 1000*cumulative(all(i in 1..2) (i, 0, 5), 0) + 10000*cumulative(all(i in 1..2) (-i, -i, 0),
--     9); subject to { }
abbrev pub tasks_counted : ModelTree
tasks_counted = stating ((IntDecl (codes "n") 4 [] (One (Node 8
    (t.Add (term false (Node 8 (t.Cumulative (binder (codes "i") 23 (Ends (lit 28 1) (lit 31 2)) no_binder) (var 35 (codes "i")) (lit 38 1) (lit 41 1)
    (Node 45 (t.Sum (binder (codes "i") 49 (Ends (lit 54 1) (lit 57 1)) no_binder) (var 60 (codes "i"))))))
    (term false (Node 65 (t.AllDifferent (binder (codes "i") 82 (Ends (lit 87 1) (lit 90 0)) no_binder) (var 93 (codes "i"))))
    (term false (Node 98 (t.Mul (lit 98 10) (factor Times (Node 101
    (t.Cumulative (binder (codes "i") 116 (Ends (lit 121 1) (lit 124 2)) no_binder) (var 128 (codes "i")) (lit 131 2) (lit 134 1) (lit 138 1))) no_factor)))
    (term false (Node 143 (t.Mul (lit 143 100) (factor Times
    (Node 147 (t.Cumulative (binder (codes "i") 162 (Ends (lit 167 1) (lit 170 0)) no_binder) (var 174 (codes "i")) (lit 177 1) (lit 180 1) (Node 184 (t.Call Negative (lit 185 1))))) no_factor)))
    (term false (Node 190 (t.Mul (lit 190 1000) (factor Times
    (Node 195 (t.Cumulative (binder (codes "i") 210 (Ends (lit 215 1) (lit 218 2)) no_binder) (var 222 (codes "i")) (lit 225 0) (lit 228 5) (lit 232 0))) no_factor)))
    (term false (Node 237 (t.Mul (lit 237 10000) (factor Times
    (Node 243 (t.Cumulative (binder (codes "i") 258 (Ends (lit 263 1) (lit 266 2)) no_binder) (Node 270 (t.Call Negative (var 271 (codes "i")))) (Node 274 (t.Call Negative (var 275 (codes "i")))) (lit 278 0)
    (lit 282 9))) no_factor))) no_term)))))))))) ∷ [])

-- operators from left to right, and how far they reach:
--     int n = 4 * (6 div 4); int m = 4 * 6 div 4; int k = -7 mod 2; int j = 7 div -2 * 2; int h = 2 - 3 - 4; int g = - sum(i in 1..2) i * 2; int f
--     = 2 * sum(i in 1..2) i - 1; subject to { }
abbrev pub operators_in_turn : ModelTree
operators_in_turn =
    stating (
    (IntDecl (codes "n") 4 [] (One (Node 8 (t.Mul (lit 8 4) (factor Times (Node 12 (t.Mul (lit 13 6) (factor Div (lit 19 4) no_factor))) no_factor)))))
    ∷ (IntDecl (codes "m") 27 [] (One (Node 31 (t.Mul (lit 31 4) (factor Times (lit 35 6) (factor Div (lit 41 4) no_factor))))))
    ∷ (IntDecl (codes "k") 48 [] (One (Node 52 (t.Mul (Node 52 (t.Call Negative (lit 53 7))) (factor Mod (lit 59 2) no_factor)))))
    ∷ (IntDecl (codes "j") 66 [] (One (Node 70 (t.Mul (lit 70 7) (factor Div (Node 76 (t.Call Negative (lit 77 2))) (factor Times (lit 81 2) no_factor))))))
    ∷ (IntDecl (codes "h") 88 [] (One (Node 92 (t.Add (term false (lit 92 2) (term true (lit 96 3) (term true (lit 100 4) no_term)))))))
    ∷ (IntDecl (codes "g") 107 [] (One (Node 111 (t.Call Negative (Node 113
    (t.Sum (binder (codes "i") 117 (Ends (lit 122 1) (lit 125 2)) no_binder) (Node 128 (t.Mul (var 128 (codes "i")) (factor Times (lit 132 2) no_factor)))))))))
    ∷ (IntDecl (codes "f") 139 [] (One (Node 143 (t.Add (term false
    (Node 143 (t.Mul (lit 143 2) (factor Times (Node 147 (t.Sum (binder (codes "i") 151 (Ends (lit 156 1) (lit 159 2)) no_binder) (var 162 (codes "i")))) no_factor)))
    (term true (lit 166 1) no_term))))))
    ∷ [])

-- an array over a set that is written out of order:
--     {int} S = {5, -1}; int a[S] = [10, 20]; int b = a[-1]*100 + a[5]; subject to { }
abbrev pub negative_elements : ModelTree
negative_elements =
    stating (
    (SetDecl (codes "S") 6 (tree (lit 11 5) (tree (Node 14 (t.Call Negative (lit 15 1))) no_tree)))
    ∷ (IntDecl (codes "a") 23 ((record { binder = None; at = 25; range = Named (codes "S") 25 }) ∷ []) (Many 30 (init (One (lit 31 10)) (init (One (lit 35 20)) no_init))))
    ∷ (IntDecl (codes "b") 44 [] (One (Node 48 (t.Add (term false (Node 48 (t.Mul (Node 48 (t.Index (codes "a") (tree (Node 50 (t.Call Negative (lit 51 1))) no_tree))) (factor Times (lit 54 100) no_factor)))
    (term false (Node 60 (t.Index (codes "a") (tree (lit 62 5) no_tree))) no_term))))))
    ∷ [])

-- int n = -1099511627776; subject to { }
abbrev pub least_constant : ModelTree
least_constant = stating ((IntDecl (codes "n") 4 [] (One (Node 8 (t.Call Negative (lit 9 1099511627776))))) ∷ [])

-- The instances, scenarios and histories of `crossed` and `drawn_against_text`.

-- names of dimensions that hide other names, and stages against text order:
--     int a[a in 1..2] = a; dvar int x[x in 1..2] in 0..a[x] stage x; stoch int s[s in 1..2] in {s:s, 0:1} stage 3-s; dvar int z in 0..1 stage 3;
--     subject to { forall(i in 1..2) prob(x[i] >= s[i]) >= i/2; x[1] == 0; }
abbrev pub crossed : ModelTree
crossed = record {
  decls =
      (IntDecl (codes "a") 4 ((record { binder = Some (codes "a"); at = 6; range = Ends (lit 11 1) (lit 14 2) }) ∷ []) (One (var 19 (codes "a"))))
      ∷ (DvarDecl (codes "x") 31 ((record { binder = Some (codes "x"); at = 33; range = Ends (lit 38 1) (lit 41 2) }) ∷ [])
      (Ends (lit 47 0) (Node 50 (t.Index (codes "a") (tree (var 52 (codes "x")) no_tree)))) (Some (var 61 (codes "x"))))
      ∷ (StochDecl (codes "s") 74 ((record { binder = Some (codes "s"); at = 76; range = Ends (lit 81 1) (lit 84 2) }) ∷ []) ((var 91 (codes "s"), var 93 (codes "s")) ∷ (lit 96 0, lit 98 1) ∷ [])
      (Some (Node 107 (t.Add (term false (lit 107 3) (term true (var 109 (codes "s")) no_term))))))
      ∷ (DvarDecl (codes "z") 121 [] (Ends (lit 126 0) (lit 129 1)) (Some (lit 137 3)))
      ∷ [];
  goal = None;
  body =
      (ForallTree (binder (codes "i") 160 (Ends (lit 165 1) (lit 168 2)) no_binder)
      (ChanceTree (Node 176 (t.Cmp Ge (Node 176 (t.Index (codes "x") (tree (var 178 (codes "i")) no_tree))) (Node 184 (t.Index (codes "s") (tree (var 186 (codes "i")) no_tree)))))
      (var 193 (codes "i")) (lit 195 2)))
      ∷ (HardTree (Node 198 (t.Cmp Eq (Node 198 (t.Index (codes "x") (tree (lit 200 1) no_tree))) (lit 206 0))))
      ∷ [];
}

-- a named domain, and histories and places where the later variable of the text is seen first:
--     range R = -2..3; stoch int a in {7:1, 5:1} stage 2; stoch int b in {1:1, 0:1} stage 1; dvar int x in R stage 2; subject to { }
abbrev pub drawn_against_text : ModelTree
drawn_against_text =
    stating (
    (RangeDecl (codes "R") 6 (Node 10 (t.Call Negative (lit 11 2))) (lit 14 3))
    ∷ (StochDecl (codes "a") 27 [] ((lit 33 7, lit 35 1) ∷ (lit 38 5, lit 40 1) ∷ []) (Some (lit 49 2)))
    ∷ (StochDecl (codes "b") 62 [] ((lit 68 1, lit 70 1) ∷ (lit 73 0, lit 75 1) ∷ []) (Some (lit 84 1)))
    ∷ (DvarDecl (codes "x") 96 [] (Named (codes "R") 101) (Some (lit 109 2)))
    ∷ [])

-- Instances of other texts.

-- a set that names its elements more than once, and a range that depends on a binder:
--     {int} S = {3, 1, 3, 1+2}; dvar int x[i in S] in 0..i; subject to { forall(i in S, j in i..3) x[i] <= j; }
abbrev pub set_of_three : ModelTree
set_of_three = record {
  decls =
      (SetDecl (codes "S") 6 (tree (lit 11 3) (tree (lit 14 1) (tree (lit 17 3) (tree (Node 20 (t.Add (term false (lit 20 1) (term false (lit 22 2) no_term)))) no_tree)))))
      ∷ (DvarDecl (codes "x") 35 ((record { binder = Some (codes "i"); at = 37; range = Named (codes "S") 42 }) ∷ []) (Ends (lit 48 0) (var 51 (codes "i"))) None)
      ∷ [];
  goal = None;
  body = (ForallTree (binder (codes "i") 74 (Named (codes "S") 79) (binder (codes "j") 82 (Ends (var 87 (codes "i")) (lit 90 3)) no_binder))
      (HardTree (Node 93 (t.Cmp Le (Node 93 (t.Index (codes "x") (tree (var 95 (codes "i")) no_tree))) (var 101 (codes "j")))))) ∷ [];
}

-- elements, bindings, outcomes' sums and constraints are all counted:
--     int a[i in 1..2] = sum(j in 1..i) j; dvar int x in 0..1; stoch int d in {1:sum(k in 1..2) k}; subject to { forall(i in 1..2, j in 1..i) x >=
--     sum(k in 1..j) k; prob(1 == 1) >= 1/2; }
abbrev pub counts : ModelTree
counts = record {
  decls =
      (IntDecl (codes "a") 4 ((record { binder = Some (codes "i"); at = 6; range = Ends (lit 11 1) (lit 14 2) }) ∷ [])
      (One (Node 19 (t.Sum (binder (codes "j") 23 (Ends (lit 28 1) (var 31 (codes "i"))) no_binder) (var 34 (codes "j"))))))
      ∷ (DvarDecl (codes "x") 46 [] (Ends (lit 51 0) (lit 54 1)) None)
      ∷ (StochDecl (codes "d") 67 [] ((lit 73 1, Node 75 (t.Sum (binder (codes "k") 79 (Ends (lit 84 1) (lit 87 2)) no_binder) (var 90 (codes "k")))) ∷ []) None)
      ∷ [];
  goal = None;
  body =
      (ForallTree (binder (codes "i") 114 (Ends (lit 119 1) (lit 122 2)) (binder (codes "j") 125 (Ends (lit 130 1) (var 133 (codes "i"))) no_binder))
      (HardTree (Node 136 (t.Cmp Ge (var 136 (codes "x")) (Node 141 (t.Sum (binder (codes "k") 145 (Ends (lit 150 1) (var 153 (codes "j"))) no_binder) (var 156 (codes "k"))))))))
      ∷ (ChanceTree (Node 164 (t.Cmp Eq (lit 164 1) (lit 169 1))) (lit 175 1) (lit 177 2))
      ∷ [];
}

-- stochastic variables by stage, and in text order within a stage:
--     stoch int a[i in 1..3] in {i:1} stage 4-i; stoch int b in {0:1} stage 2; subject to { }
abbrev pub staged : ModelTree
staged =
    stating (
    (StochDecl (codes "a") 10 ((record { binder = Some (codes "i"); at = 12; range = Ends (lit 17 1) (lit 20 3) }) ∷ []) ((var 27 (codes "i"), lit 29 1) ∷ [])
    (Some (Node 38 (t.Add (term false (lit 38 4) (term true (var 40 (codes "i")) no_term))))))
    ∷ (StochDecl (codes "b") 53 [] ((lit 59 0, lit 61 1) ∷ []) (Some (lit 70 2)))
    ∷ [])

-- conditions are numbered in text order, also where a block has no instance:
--     subject to { forall(i in 1..2) { forall(j in 1..0) { 1 == 1; prob(1 == 1) >= 0/1; } { } 2 == 2; } prob(3 == 3) >= 1/1; 4 == 4; }
abbrev pub nested : ModelTree
nested =
    asking (
    (ForallTree (binder (codes "i") 20 (Ends (lit 25 1) (lit 28 2)) no_binder)
    (BlockTree (cons (ForallTree (binder (codes "j") 40 (Ends (lit 45 1) (lit 48 0)) no_binder)
    (BlockTree (cons (HardTree (Node 53 (t.Cmp Eq (lit 53 1) (lit 58 1)))) (cons (ChanceTree (Node 66 (t.Cmp Eq (lit 66 1) (lit 71 1))) (lit 77 0) (lit 79 1)) no_cons))))
    (cons (BlockTree no_cons) (cons (HardTree (Node 88 (t.Cmp Eq (lit 88 2) (lit 93 2)))) no_cons)))))
    ∷ (ChanceTree (Node 103 (t.Cmp Eq (lit 103 3) (lit 108 3))) (lit 114 1) (lit 116 1))
    ∷ (HardTree (Node 119 (t.Cmp Eq (lit 119 4) (lit 124 4))))
    ∷ [])

-- sums as elements, ends and dimensions:
--     {int} S = {sum(i in 1..3) i}; range R = 1..sum(i in 1..3) i; dvar int x[R][S] in 0..1; subject to { }
abbrev pub summed_ends : ModelTree
summed_ends =
    stating (
    (SetDecl (codes "S") 6 (tree (Node 11 (t.Sum (binder (codes "i") 15 (Ends (lit 20 1) (lit 23 3)) no_binder) (var 26 (codes "i")))) no_tree))
    ∷ (RangeDecl (codes "R") 36 (lit 40 1) (Node 43 (t.Sum (binder (codes "i") 47 (Ends (lit 52 1) (lit 55 3)) no_binder) (var 58 (codes "i")))))
    ∷ (DvarDecl (codes "x") 70 ((record { binder = None; at = 72; range = Named (codes "R") 72 }) ∷ (record { binder = None; at = 75; range = Named (codes "S") 75 }) ∷ [])
    (Ends (lit 81 0) (lit 84 1)) None)
    ∷ [])

-- subject to { prob(1 == 1) >= (1 == 1)/(2 == 2); }
abbrev pub threshold_of_conditions : ModelTree
threshold_of_conditions = asking ((ChanceTree (Node 18 (t.Cmp Eq (lit 18 1) (lit 23 1))) (Node 29 (t.Cmp Eq (lit 30 1) (lit 35 1))) (Node 38 (t.Cmp Eq (lit 39 2) (lit 44 2)))) ∷ [])

-- The sizes that the limits are about.

-- nodes of all kinds of expressions:
--     dvar int x in 1..3; minimize expected(x div (1+1)); subject to { forall(i in 1..2) sum(j in 1..i) (x + j*2 - j div 2) >= max(abs(-x), 3, i)
--     => allDifferent(all(k in 1..3) k*x) && !(x == 1 && x == 2 && x == 3); prob(cumulative(all(i in 1..2) (x, i, 1), 1+1)) >= (1+1)/(2+2); }
abbrev pub many_nodes : ModelTree
many_nodes = record {
  decls = (DvarDecl (codes "x") 9 [] (Ends (lit 14 1) (lit 17 3)) None) ∷ [];
  goal = Some (record {
    direction = Minimize;
    worst = false;
    expr =
        Node 38 (t.Mul (var 38 (codes "x")) (factor Div (Node 44 (t.Add (term false (lit 45 1) (term false (lit 47 1) no_term)))) no_factor));
  });
  body =
      (ForallTree (binder (codes "i") 72 (Ends (lit 77 1) (lit 80 2)) no_binder)
      (HardTree (Node 83 (t.Implies (Node 83 (t.Cmp Ge (Node 83
      (t.Sum (binder (codes "j") 87 (Ends (lit 92 1) (var 95 (codes "i"))) no_binder)
      (Node 98 (t.Add (term false (var 99 (codes "x")) (term false (Node 103 (t.Mul (var 103 (codes "j")) (factor Times (lit 105 2) no_factor)))
      (term true (Node 109 (t.Mul (var 109 (codes "j")) (factor Div (lit 115 2) no_factor))) no_term)))))))
      (Node 121 (t.Selected Greatest (tree (Node 125 (t.Call Size (Node 129 (t.Call Negative (var 130 (codes "x")))))) (tree (lit 134 3) (tree (var 137 (codes "i")) no_tree)))))))
      (Node 143 (t.And (tree (Node 143 (t.AllDifferent (binder (codes "k") 160 (Ends (lit 165 1) (lit 168 3)) no_binder)
      (Node 171 (t.Mul (var 171 (codes "k")) (factor Times (var 173 (codes "x")) no_factor)))))
      (tree (Node 179 (t.Not (Node 180 (t.And (tree (Node 181 (t.Cmp Eq (var 181 (codes "x")) (lit 186 1)))
      (tree (Node 191 (t.Cmp Eq (var 191 (codes "x")) (lit 196 2))) (tree (Node 201 (t.Cmp Eq (var 201 (codes "x")) (lit 206 3))) no_tree))))))) no_tree))))))))
      ∷ (ChanceTree (Node 215 (t.Cumulative (binder (codes "i") 230 (Ends (lit 235 1) (lit 238 2)) no_binder) (var 242 (codes "x")) (var 245 (codes "i")) (lit 248 1)
      (Node 252 (t.Add (term false (lit 252 1) (term false (lit 254 1) no_term)))))) (Node 261 (t.Add (term false (lit 262 1) (term false (lit 264 1) no_term))))
      (Node 267 (t.Add (term false (lit 268 2) (term false (lit 270 2) no_term)))))
      ∷ [];
}

-- a weight past 2^127 - 1 is given as that:
--     stoch int a in {0:1099511627776}; stoch int b in {0:1099511627776}; stoch int c in {0:1048576}; stoch int e in {0:1099511627776}; subject to
--     { }
abbrev pub heaviest : ModelTree
heaviest =
    stating (
    (StochDecl (codes "a") 10 [] ((lit 16 0, lit 18 1099511627776) ∷ []) None)
    ∷ (StochDecl (codes "b") 44 [] ((lit 50 0, lit 52 1099511627776) ∷ []) None)
    ∷ (StochDecl (codes "c") 78 [] ((lit 84 0, lit 86 1048576) ∷ []) None)
    ∷ (StochDecl (codes "e") 106 [] ((lit 112 0, lit 114 1099511627776) ∷ []) None)
    ∷ [])

-- weights are multiplied by stage:
--     stoch int e in {0:1099511627776} stage 2; stoch int a in {0:1099511627776}; stoch int b in {0:1099511627776}; stoch int c in {0:2}; subject
--     to { }
abbrev pub heavy_late : ModelTree
heavy_late =
    stating (
    (StochDecl (codes "e") 10 [] ((lit 16 0, lit 18 1099511627776) ∷ []) (Some (lit 39 2)))
    ∷ (StochDecl (codes "a") 52 [] ((lit 58 0, lit 60 1099511627776) ∷ []) None)
    ∷ (StochDecl (codes "b") 86 [] ((lit 92 0, lit 94 1099511627776) ∷ []) None)
    ∷ (StochDecl (codes "c") 120 [] ((lit 126 0, lit 128 2) ∷ []) None)
    ∷ [])

-- 27 scenarios, five instances, and domains of one and of eight values:
--     stoch int d[1..3] in {0:1, 1:1, 2:1}; dvar int x in 5..5; dvar int y in -3..4 stage 2; subject to { }
abbrev pub sizes : ModelTree
sizes =
    stating (
    (StochDecl (codes "d") 10 ((record { binder = None; at = 12; range = Ends (lit 12 1) (lit 15 3) }) ∷ []) ((lit 22 0, lit 24 1) ∷ (lit 27 1, lit 29 1) ∷ (lit 32 2, lit 34 1) ∷ []) None)
    ∷ (DvarDecl (codes "x") 47 [] (Ends (lit 52 5) (lit 55 5)) None)
    ∷ (DvarDecl (codes "y") 67 [] (Ends (Node 72 (t.Call Negative (lit 73 3))) (lit 76 4)) (Some (lit 84 2)))
    ∷ [])

-- domains of 1, 2, 3, 4, 5, 8, 9 and 65536 values:
--     dvar int x0 in 0..0; dvar int x1 in 0..1; dvar int x2 in 0..2; dvar int x3 in 0..3; dvar int x4 in 0..4; dvar int x5 in 0..7; dvar int x6 in
--     0..8; dvar int x7 in 0..65535; subject to { }
abbrev pub digits : ModelTree
digits =
    stating (
    (DvarDecl (codes "x0") 9 [] (Ends (lit 15 0) (lit 18 0)) None)
    ∷ (DvarDecl (codes "x1") 30 [] (Ends (lit 36 0) (lit 39 1)) None)
    ∷ (DvarDecl (codes "x2") 51 [] (Ends (lit 57 0) (lit 60 2)) None)
    ∷ (DvarDecl (codes "x3") 72 [] (Ends (lit 78 0) (lit 81 3)) None)
    ∷ (DvarDecl (codes "x4") 93 [] (Ends (lit 99 0) (lit 102 4)) None)
    ∷ (DvarDecl (codes "x5") 114 [] (Ends (lit 120 0) (lit 123 7)) None)
    ∷ (DvarDecl (codes "x6") 135 [] (Ends (lit 141 0) (lit 144 8)) None)
    ∷ (DvarDecl (codes "x7") 156 [] (Ends (lit 162 0) (lit 165 65535)) None)
    ∷ [])
