-- Small texts of which the truths and the values under some policies are known. Each is written above its tree.
use Rattle.std.specs.Prelude.{ℕ, Bool, true, false, List, [], ◌∷◌, Some, None, codes, map}
use Rattle.std.specs.List.{range_with_len}
use Rattle.sopl_base.specs.declared.comparison.CmpOp.TheVariants.{Eq, Ne, Lt, Ge}
use Rattle.sopl_base.specs.declared.direction.Direction.TheVariants.{Minimize, Maximize}
use Rattle.sopl_base.specs.declared.extreme.Extreme.TheVariants.{Least, Greatest}
use Rattle.sopl_ast.specs.declared.operators.Function.TheVariants.{Negative, Size}
use Rattle.sopl_ast.specs.declared.operators.MulOp.TheVariants.{Times, Div, Mod}
use Rattle.sopl_ast.specs.Tree as t
use Rattle.sopl_ast.specs.Tree.{Node, no_tree, tree, no_term, term, no_factor, factor, no_binder, binder, Named, Ends}
use Rattle.sopl_ast.specs.Whole.{One, Many, no_init, init, IntDecl, RangeDecl, SetDecl, DvarDecl, StochDecl, ForallTree, HardTree, ChanceTree, ModelTree}
use Rattle.sopl_ast.specs.Policies.{Policy}
use Rattle.lang_laws.specs.WorkedTexts.{lit, var, holds_in}

-- What is undefined makes a comparison false, and an objective without value.

-- what is undefined in its parts:
--     range R = 1..2; int a[R] = [5, 7]; dvar int x in 0..3; dvar int y[1..1] in 0..9; maximize worst(min(3, a[x])); subject to { !(a[x] == a[x]);
--     (a[x] == 5) + 1 == 1; min(3, a[x]) >= 0; min(3, a[x]) >= 0 || 1 == 1; sum(i in R) a[x+i] >= 0; !allDifferent(all(i in R) a[x]); (a[x] < 0)
--     => (1 == 0); 0 * a[x] == 0; !(0 * a[x] == 0) && !(0*a[x] != 0); a[a[x]] == 5; y[a[x]-6] == 4; !cumulative(all(i in R) (1, 1, a[x]), 100);
--     cumulative(all(i in R) (i, 1, 1), a[x]); abs(a[x]) >= 0; x div 2 == -1; -x mod 2 == -1; }
abbrev pub undefined : ModelTree
undefined = record {
  decls =
      (RangeDecl (codes "R") 6 (lit 10 1) (lit 13 2))
      ∷ (IntDecl (codes "a") 20 ((record { binder = None; at = 22; range = Named (codes "R") 22 }) ∷ []) (Many 27 (init (One (lit 28 5)) (init (One (lit 31 7)) no_init))))
      ∷ (DvarDecl (codes "x") 44 [] (Ends (lit 49 0) (lit 52 3)) None)
      ∷ (DvarDecl (codes "y") 64 ((record { binder = None; at = 66; range = Ends (lit 66 1) (lit 69 1) }) ∷ []) (Ends (lit 75 0) (lit 78 9)) None)
      ∷ [];
  goal = Some (record { direction = Maximize; worst = true; expr = Node 96 (t.Selected Least (tree (lit 100 3) (tree (Node 103 (t.Index (codes "a") (tree (var 105 (codes "x")) no_tree))) no_tree))) });
  body =
      (HardTree (Node 124 (t.Not (Node 125 (t.Cmp Eq (Node 126 (t.Index (codes "a") (tree (var 128 (codes "x")) no_tree))) (Node 134 (t.Index (codes "a") (tree (var 136 (codes "x")) no_tree))))))))
      ∷ (HardTree (Node 141 (t.Cmp Eq (Node 141 (t.Add (term false (Node 141 (t.Cmp Eq (Node 142 (t.Index (codes "a") (tree (var 144 (codes "x")) no_tree))) (lit 150 5)))
      (term false (lit 155 1) no_term)))) (lit 160 1))))
      ∷ (HardTree (Node 163 (t.Cmp Ge (Node 163 (t.Selected Least (tree (lit 167 3) (tree (Node 170 (t.Index (codes "a") (tree (var 172 (codes "x")) no_tree))) no_tree)))) (lit 179 0))))
      ∷ (HardTree (Node 182 (t.Or (tree (Node 182 (t.Cmp Ge (Node 182 (t.Selected Least (tree (lit 186 3) (tree (Node 189 (t.Index (codes "a") (tree (var 191 (codes "x")) no_tree))) no_tree)))) (lit 198 0)))
      (tree (Node 203 (t.Cmp Eq (lit 203 1) (lit 208 1))) no_tree)))))
      ∷ (HardTree (Node 211 (t.Cmp Ge (Node 211 (t.Sum (binder (codes "i") 215 (Named (codes "R") 220) no_binder)
      (Node 223 (t.Index (codes "a") (tree (Node 225 (t.Add (term false (var 225 (codes "x")) (term false (var 227 (codes "i")) no_term)))) no_tree))))) (lit 233 0))))
      ∷ (HardTree (Node 236 (t.Not (Node 237 (t.AllDifferent (binder (codes "i") 254 (Named (codes "R") 259) no_binder) (Node 262 (t.Index (codes "a") (tree (var 264 (codes "x")) no_tree))))))))
      ∷ (HardTree (Node 269 (t.Implies (Node 269 (t.Cmp Lt (Node 270 (t.Index (codes "a") (tree (var 272 (codes "x")) no_tree))) (lit 277 0))) (Node 283 (t.Cmp Eq (lit 284 1) (lit 289 0))))))
      ∷ (HardTree (Node 293 (t.Cmp Eq (Node 293 (t.Mul (lit 293 0) (factor Times (Node 297 (t.Index (codes "a") (tree (var 299 (codes "x")) no_tree))) no_factor))) (lit 305 0))))
      ∷ (HardTree (Node 308 (t.And (tree (Node 308 (t.Not (Node 309
      (t.Cmp Eq (Node 310 (t.Mul (lit 310 0) (factor Times (Node 314 (t.Index (codes "a") (tree (var 316 (codes "x")) no_tree))) no_factor))) (lit 322 0)))))
      (tree (Node 328 (t.Not (Node 329 (t.Cmp Ne (Node 330 (t.Mul (lit 330 0) (factor Times (Node 332 (t.Index (codes "a") (tree (var 334 (codes "x")) no_tree))) no_factor)))
      (lit 340 0))))) no_tree)))))
      ∷ (HardTree (Node 344 (t.Cmp Eq (Node 344 (t.Index (codes "a") (tree (Node 346 (t.Index (codes "a") (tree (var 348 (codes "x")) no_tree))) no_tree))) (lit 355 5))))
      ∷ (HardTree (Node 358 (t.Cmp Eq (Node 358 (t.Index (codes "y")
      (tree (Node 360 (t.Add (term false (Node 360 (t.Index (codes "a") (tree (var 362 (codes "x")) no_tree))) (term true (lit 365 6) no_term)))) no_tree))) (lit 371 4))))
      ∷ (HardTree (Node 374 (t.Not (Node 375 (t.Cumulative (binder (codes "i") 390 (Named (codes "R") 395) no_binder) (lit 399 1) (lit 402 1)
      (Node 405 (t.Index (codes "a") (tree (var 407 (codes "x")) no_tree))) (lit 412 100))))))
      ∷ (HardTree (Node 418 (t.Cumulative (binder (codes "i") 433 (Named (codes "R") 438) no_binder) (var 442 (codes "i")) (lit 445 1) (lit 448 1)
      (Node 452 (t.Index (codes "a") (tree (var 454 (codes "x")) no_tree))))))
      ∷ (HardTree (Node 459 (t.Cmp Ge (Node 459 (t.Call Size (Node 463 (t.Index (codes "a") (tree (var 465 (codes "x")) no_tree))))) (lit 472 0))))
      ∷ (HardTree (Node 475 (t.Cmp Eq (Node 475 (t.Mul (var 475 (codes "x")) (factor Div (lit 481 2) no_factor))) (Node 486 (t.Call Negative (lit 487 1))))))
      ∷ (HardTree (Node 490 (t.Cmp Eq (Node 490 (t.Mul (Node 490 (t.Call Negative (var 491 (codes "x")))) (factor Mod (lit 497 2) no_factor))) (Node 502 (t.Call Negative (lit 503 1))))))
      ∷ [];
}

-- Conditions and objectives at one decision.

-- tasks, great numbers, negative indices, quotients, and chains:
--     range R = 1..2; int a[R] = [5, 7]; dvar int x in 0..3; dvar int y[-1..1] in 0..2; maximize expected((x == 2) + 5*(a[x] == 7)); subject to {
--     !cumulative(all(i in 1..0) (x, 1, 1), -1); x*1099511627776*1099511627776 == 3*1099511627776*1099511627776; y[-1] == 1; (x - 7) div 2 == -2;
--     (x - 7) mod -2 == 0; (1 - x) div -2 == 1; max(x, 1 - x, 2) == 3; (x >= 3) * 2 - (x == 0) == 2; x == 3 => a[x] == 5 => 1 == 2;
--     cumulative(all(i in R) (x, x - 2, 1), 1) || cumulative(all(i in R) (x*i, 3, 1), 1); allDifferent(all(i in R, j in i..2) x*i + j); prob(x >=
--     3) >= 1/1; }
abbrev pub settled : ModelTree
settled = record {
  decls =
      (RangeDecl (codes "R") 6 (lit 10 1) (lit 13 2))
      ∷ (IntDecl (codes "a") 20 ((record { binder = None; at = 22; range = Named (codes "R") 22 }) ∷ []) (Many 27 (init (One (lit 28 5)) (init (One (lit 31 7)) no_init))))
      ∷ (DvarDecl (codes "x") 44 [] (Ends (lit 49 0) (lit 52 3)) None)
      ∷ (DvarDecl (codes "y") 64 ((record { binder = None; at = 66; range = Ends (Node 66 (t.Call Negative (lit 67 1))) (lit 70 1) }) ∷ []) (Ends (lit 76 0) (lit 79 2)) None)
      ∷ [];
  goal = Some (record {
    direction = Maximize;
    worst = false;
    expr =
        Node 100 (t.Add (term false (Node 100 (t.Cmp Eq (var 101 (codes "x")) (lit 106 2)))
        (term false (Node 111 (t.Mul (lit 111 5) (factor Times (Node 113 (t.Cmp Eq (Node 114 (t.Index (codes "a") (tree (var 116 (codes "x")) no_tree))) (lit 122 7))) no_factor))) no_term)));
  });
  body =
      (HardTree (Node 140 (t.Not (Node 141 (t.Cumulative (binder (codes "i") 156 (Ends (lit 161 1) (lit 164 0)) no_binder) (var 168 (codes "x")) (lit 171 1) (lit 174 1)
      (Node 178 (t.Call Negative (lit 179 1))))))))
      ∷ (HardTree (Node 183 (t.Cmp Eq (Node 183 (t.Mul (var 183 (codes "x")) (factor Times (lit 185 1099511627776) (factor Times (lit 199 1099511627776) no_factor))))
      (Node 216 (t.Mul (lit 216 3) (factor Times (lit 218 1099511627776) (factor Times (lit 232 1099511627776) no_factor)))))))
      ∷ (HardTree (Node 247 (t.Cmp Eq (Node 247 (t.Index (codes "y") (tree (Node 249 (t.Call Negative (lit 250 1))) no_tree))) (lit 256 1))))
      ∷ (HardTree (Node 259 (t.Cmp Eq (Node 259 (t.Mul (Node 259 (t.Add (term false (var 260 (codes "x")) (term true (lit 264 7) no_term)))) (factor Div (lit 271 2) no_factor)))
      (Node 276 (t.Call Negative (lit 277 2))))))
      ∷ (HardTree (Node 280 (t.Cmp Eq (Node 280 (t.Mul (Node 280 (t.Add (term false (var 281 (codes "x")) (term true (lit 285 7) no_term)))) (factor Mod (Node 292 (t.Call Negative (lit 293 2))) no_factor)))
      (lit 298 0))))
      ∷ (HardTree (Node 301 (t.Cmp Eq (Node 301 (t.Mul (Node 301 (t.Add (term false (lit 302 1) (term true (var 306 (codes "x")) no_term)))) (factor Div (Node 313 (t.Call Negative (lit 314 2))) no_factor)))
      (lit 319 1))))
      ∷ (HardTree (Node 322 (t.Cmp Eq (Node 322 (t.Selected Greatest (tree (var 326 (codes "x"))
      (tree (Node 329 (t.Add (term false (lit 329 1) (term true (var 333 (codes "x")) no_term)))) (tree (lit 336 2) no_tree))))) (lit 342 3))))
      ∷ (HardTree (Node 345 (t.Cmp Eq (Node 345 (t.Add (term false (Node 345 (t.Mul (Node 345 (t.Cmp Ge (var 346 (codes "x")) (lit 351 3))) (factor Times (lit 356 2) no_factor)))
      (term true (Node 360 (t.Cmp Eq (var 361 (codes "x")) (lit 366 0))) no_term)))) (lit 372 2))))
      ∷ (HardTree (Node 375 (t.Implies (Node 375 (t.Cmp Eq (var 375 (codes "x")) (lit 380 3)))
      (Node 385 (t.Implies (Node 385 (t.Cmp Eq (Node 385 (t.Index (codes "a") (tree (var 387 (codes "x")) no_tree))) (lit 393 5))) (Node 398 (t.Cmp Eq (lit 398 1) (lit 403 2))))))))
      ∷ (HardTree (Node 406 (t.Or (tree (Node 406 (t.Cumulative (binder (codes "i") 421 (Named (codes "R") 426) no_binder) (var 430 (codes "x"))
      (Node 433 (t.Add (term false (var 433 (codes "x")) (term true (lit 437 2) no_term)))) (lit 440 1) (lit 444 1)))
      (tree (Node 450 (t.Cumulative (binder (codes "i") 465 (Named (codes "R") 470) no_binder) (Node 474 (t.Mul (var 474 (codes "x")) (factor Times (var 476 (codes "i")) no_factor)))
      (lit 479 3) (lit 482 1) (lit 486 1))) no_tree)))))
      ∷ (HardTree (Node 490 (t.AllDifferent (binder (codes "i") 507 (Named (codes "R") 512) (binder (codes "j") 515 (Ends (var 520 (codes "i")) (lit 523 2)) no_binder))
      (Node 526 (t.Add (term false (Node 526 (t.Mul (var 526 (codes "x")) (factor Times (var 528 (codes "i")) no_factor))) (term false (var 532 (codes "j")) no_term)))))))
      ∷ (ChanceTree (Node 541 (t.Cmp Ge (var 541 (codes "x")) (lit 546 3))) (lit 552 1) (lit 554 1))
      ∷ [];
}

-- sizes of numbers, and conditions behind conditions:
--     dvar int x in 0..3; dvar int y[0..9] in 0..9; subject to { abs(x - 5) == 2; abs(x - 2) == 1; y[x + 1] >= abs(x) => y[2*x] == x; 1 == 1 => x
--     == 1; x == 3 && x >= 4; x == 3 && x >= 3; }
abbrev pub measured : ModelTree
measured = record {
  decls =
      (DvarDecl (codes "x") 9 [] (Ends (lit 14 0) (lit 17 3)) None)
      ∷ (DvarDecl (codes "y") 29 ((record { binder = None; at = 31; range = Ends (lit 31 0) (lit 34 9) }) ∷ []) (Ends (lit 40 0) (lit 43 9)) None)
      ∷ [];
  goal = None;
  body =
      (HardTree (Node 59 (t.Cmp Eq (Node 59 (t.Call Size (Node 63 (t.Add (term false (var 63 (codes "x")) (term true (lit 67 5) no_term)))))) (lit 73 2))))
      ∷ (HardTree (Node 76 (t.Cmp Eq (Node 76 (t.Call Size (Node 80 (t.Add (term false (var 80 (codes "x")) (term true (lit 84 2) no_term)))))) (lit 90 1))))
      ∷ (HardTree (Node 93 (t.Implies (Node 93 (t.Cmp Ge (Node 93 (t.Index (codes "y") (tree (Node 95 (t.Add (term false (var 95 (codes "x")) (term false (lit 99 1) no_term)))) no_tree)))
      (Node 105 (t.Call Size (var 109 (codes "x")))))) (Node 115
      (t.Cmp Eq (Node 115 (t.Index (codes "y") (tree (Node 117 (t.Mul (lit 117 2) (factor Times (var 119 (codes "x")) no_factor))) no_tree))) (var 125 (codes "x")))))))
      ∷ (HardTree (Node 128 (t.Implies (Node 128 (t.Cmp Eq (lit 128 1) (lit 133 1))) (Node 138 (t.Cmp Eq (var 138 (codes "x")) (lit 143 1))))))
      ∷ (HardTree (Node 146 (t.And (tree (Node 146 (t.Cmp Eq (var 146 (codes "x")) (lit 151 3))) (tree (Node 156 (t.Cmp Ge (var 156 (codes "x")) (lit 161 4))) no_tree)))))
      ∷ (HardTree (Node 164 (t.And (tree (Node 164 (t.Cmp Eq (var 164 (codes "x")) (lit 169 3))) (tree (Node 174 (t.Cmp Ge (var 174 (codes "x")) (lit 179 3))) no_tree)))))
      ∷ [];
}

-- The least and the greatest value over scenarios, and the expected one, of one policy.

-- one problem with three objectives:
--     stoch int d in {1:1, 3:2} stage 1; stoch int e in {0:1, 5:3} stage 2; dvar int x in 0..3 stage 1; dvar int y in 0..9 stage 2; dvar int z in
--     0..9 stage 3; maximize worst(x + y - z); subject to { prob(y == d) >= 2/3; }
abbrev pub greatest_worst : ModelTree
greatest_worst = record {
  decls =
      (StochDecl (codes "d") 10 [] ((lit 16 1, lit 18 1) ∷ (lit 21 3, lit 23 2) ∷ []) (Some (lit 32 1)))
      ∷ (StochDecl (codes "e") 45 [] ((lit 51 0, lit 53 1) ∷ (lit 56 5, lit 58 3) ∷ []) (Some (lit 67 2)))
      ∷ (DvarDecl (codes "x") 79 [] (Ends (lit 84 0) (lit 87 3)) (Some (lit 95 1)))
      ∷ (DvarDecl (codes "y") 107 [] (Ends (lit 112 0) (lit 115 9)) (Some (lit 123 2)))
      ∷ (DvarDecl (codes "z") 135 [] (Ends (lit 140 0) (lit 143 9)) (Some (lit 151 3)))
      ∷ [];
  goal = Some (record { direction = Maximize; worst = true; expr = Node 169 (t.Add (term false (var 169 (codes "x")) (term false (var 173 (codes "y")) (term true (var 177 (codes "z")) no_term)))) });
  body = (ChanceTree (Node 199 (t.Cmp Eq (var 199 (codes "y")) (var 204 (codes "d")))) (lit 210 2) (lit 212 3)) ∷ [];
}

-- stoch int d in {1:1, 3:2} stage 1; stoch int e in {0:1, 5:3} stage 2; dvar int x in 0..3 stage 1; dvar int y in 0..9 stage 2; dvar int z in
-- 0..9 stage 3; minimize worst(x + y - z); subject to { prob(y == d) >= 2/3; }
abbrev pub least_worst : ModelTree
least_worst = record {
  decls =
      (StochDecl (codes "d") 10 [] ((lit 16 1, lit 18 1) ∷ (lit 21 3, lit 23 2) ∷ []) (Some (lit 32 1)))
      ∷ (StochDecl (codes "e") 45 [] ((lit 51 0, lit 53 1) ∷ (lit 56 5, lit 58 3) ∷ []) (Some (lit 67 2)))
      ∷ (DvarDecl (codes "x") 79 [] (Ends (lit 84 0) (lit 87 3)) (Some (lit 95 1)))
      ∷ (DvarDecl (codes "y") 107 [] (Ends (lit 112 0) (lit 115 9)) (Some (lit 123 2)))
      ∷ (DvarDecl (codes "z") 135 [] (Ends (lit 140 0) (lit 143 9)) (Some (lit 151 3)))
      ∷ [];
  goal = Some (record { direction = Minimize; worst = true; expr = Node 169 (t.Add (term false (var 169 (codes "x")) (term false (var 173 (codes "y")) (term true (var 177 (codes "z")) no_term)))) });
  body = (ChanceTree (Node 199 (t.Cmp Eq (var 199 (codes "y")) (var 204 (codes "d")))) (lit 210 2) (lit 212 3)) ∷ [];
}

-- stoch int d in {1:1, 3:2} stage 1; stoch int e in {0:1, 5:3} stage 2; dvar int x in 0..3 stage 1; dvar int y in 0..9 stage 2; dvar int z in
-- 0..9 stage 3; maximize expected(x + y - z); subject to { prob(y == d) >= 2/3; }
abbrev pub greatest_expected : ModelTree
greatest_expected = record {
  decls =
      (StochDecl (codes "d") 10 [] ((lit 16 1, lit 18 1) ∷ (lit 21 3, lit 23 2) ∷ []) (Some (lit 32 1)))
      ∷ (StochDecl (codes "e") 45 [] ((lit 51 0, lit 53 1) ∷ (lit 56 5, lit 58 3) ∷ []) (Some (lit 67 2)))
      ∷ (DvarDecl (codes "x") 79 [] (Ends (lit 84 0) (lit 87 3)) (Some (lit 95 1)))
      ∷ (DvarDecl (codes "y") 107 [] (Ends (lit 112 0) (lit 115 9)) (Some (lit 123 2)))
      ∷ (DvarDecl (codes "z") 135 [] (Ends (lit 140 0) (lit 143 9)) (Some (lit 151 3)))
      ∷ [];
  goal = Some (record { direction = Maximize; worst = false; expr = Node 172 (t.Add (term false (var 172 (codes "x")) (term false (var 176 (codes "y")) (term true (var 180 (codes "z")) no_term)))) });
  body = (ChanceTree (Node 202 (t.Cmp Eq (var 202 (codes "y")) (var 207 (codes "d")))) (lit 213 2) (lit 215 3)) ∷ [];
}

-- Sums and conditions over an empty set.

-- over an empty set: a sum is 0, all differ, and there is no instance:
--     {int} S = {}; dvar int x[S] in 0..1; subject to { sum(i in S) x[i] == 0; allDifferent(all(i in S) x[i]); forall(i in S) x[i] div 0 == 1;
--     min(1, 2) == 1; }
abbrev pub over_nothing : ModelTree
over_nothing = record {
  decls =
      (SetDecl (codes "S") 6 no_tree)
      ∷ (DvarDecl (codes "x") 23 ((record { binder = None; at = 25; range = Named (codes "S") 25 }) ∷ []) (Ends (lit 31 0) (lit 34 1)) None)
      ∷ [];
  goal = None;
  body =
      (HardTree (Node 50 (t.Cmp Eq (Node 50 (t.Sum (binder (codes "i") 54 (Named (codes "S") 59) no_binder) (Node 62 (t.Index (codes "x") (tree (var 64 (codes "i")) no_tree))))) (lit 70 0))))
      ∷ (HardTree (Node 73 (t.AllDifferent (binder (codes "i") 90 (Named (codes "S") 95) no_binder) (Node 98 (t.Index (codes "x") (tree (var 100 (codes "i")) no_tree))))))
      ∷ (ForallTree (binder (codes "i") 112 (Named (codes "S") 117) no_binder)
      (HardTree (Node 120 (t.Cmp Eq (Node 120 (t.Mul (Node 120 (t.Index (codes "x") (tree (var 122 (codes "i")) no_tree))) (factor Div (lit 129 0) no_factor))) (lit 134 1)))))
      ∷ (HardTree (Node 137 (t.Cmp Eq (Node 137 (t.Selected Least (tree (lit 141 1) (tree (lit 144 2) no_tree)))) (lit 150 1))))
      ∷ [];
}

-- What is said of them.

-- whether each of the first constraints, so many, is true in the one scenario
abbrev pub truths_in : ModelTree → Policy → ℕ → List Bool
truths_in model policy count = map (holds_in model policy) (range_with_len 0 count)
