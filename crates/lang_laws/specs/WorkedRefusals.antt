-- Small texts whose unfolding stops, or does not, at a place that is easily mistaken. Each is written above its tree.
use Rattle.std.specs.Prelude.{true, false, [], ◌∷◌, Some, None, codes}
use Rattle.sopl_base.specs.declared.comparison.CmpOp.TheVariants.{Eq, Gt, Ge}
use Rattle.sopl_base.specs.declared.direction.Direction.TheVariants.{Minimize}
use Rattle.sopl_base.specs.declared.extreme.Extreme.TheVariants.{Greatest}
use Rattle.sopl_ast.specs.declared.operators.Function.TheVariants.{Negative}
use Rattle.sopl_ast.specs.declared.operators.MulOp.TheVariants.{Times, Div, Mod}
use Rattle.sopl_ast.specs.Tree as t
use Rattle.sopl_ast.specs.Tree.{Node, no_tree, tree, no_term, term, no_factor, factor, no_binder, binder, Named, Ends}
use Rattle.sopl_ast.specs.Whole.{One, Many, no_init, init, IntDecl, RangeDecl, SetDecl, DvarDecl, StochDecl, ForallTree, BlockTree, HardTree, ChanceTree, no_cons, cons, ModelTree}
use Rattle.lang_laws.specs.WorkedTexts.{lit, var, stating, asking}

-- Constants that are worth nothing.

-- 110 stands where the whole constant expression begins, also for an end of a range in it:
--     int n = sum(i in 1..(1 div 0)) i; subject to { }
abbrev pub sum_end : ModelTree
sum_end = stating ((IntDecl (codes "n") 4 [] (One (Node 8 (t.Sum (binder (codes "i") 12 (Ends (lit 17 1) (Node 20 (t.Mul (lit 21 1) (factor Div (lit 27 0) no_factor)))) no_binder)
    (var 31 (codes "i")))))) ∷ [])

-- int n = sum(i in (1 div 0)..1) i; subject to { }
abbrev pub sum_begin : ModelTree
sum_begin = stating ((IntDecl (codes "n") 4 [] (One (Node 8 (t.Sum (binder (codes "i") 12 (Ends (Node 17 (t.Mul (lit 18 1) (factor Div (lit 24 0) no_factor))) (lit 28 1)) no_binder)
    (var 31 (codes "i")))))) ∷ [])

-- the range of a later binder is looked at for each value of the earlier one:
--     int n = sum(i in 1..1, j in 1..(1 div 0)) 1; subject to { }
abbrev pub inner_range : ModelTree
inner_range = stating ((IntDecl (codes "n") 4 [] (One (Node 8
    (t.Sum (binder (codes "i") 12 (Ends (lit 17 1) (lit 20 1)) (binder (codes "j") 23 (Ends (lit 28 1) (Node 31 (t.Mul (lit 32 1) (factor Div (lit 38 0) no_factor)))) no_binder)) (lit 42 1))))) ∷ [])

-- each prefix of a product is of a size that constants have:
--     int n = 1099511627776 * 2 div 4; subject to { }
abbrev pub great_prefix : ModelTree
great_prefix = stating ((IntDecl (codes "n") 4 [] (One (Node 8 (t.Mul (lit 8 1099511627776) (factor Times (lit 24 2) (factor Div (lit 30 4) no_factor)))))) ∷ [])

-- int n = 1099511627776 * 1099511627776 div 1099511627776; subject to { }
abbrev pub great_product : ModelTree
great_product = stating ((IntDecl (codes "n") 4 [] (One (Node 8 (t.Mul (lit 8 1099511627776) (factor Times (lit 24 1099511627776) (factor Div (lit 42 1099511627776) no_factor)))))) ∷ [])

-- a sum in brackets is a part of its own; without brackets only the whole sum is tested:
--     int n = (1099511627776 + 1) - 1; subject to { }
abbrev pub great_inside : ModelTree
great_inside = stating ((IntDecl (codes "n") 4 [] (One (Node 8
    (t.Add (term false (Node 8 (t.Add (term false (lit 9 1099511627776) (term false (lit 25 1) no_term)))) (term true (lit 30 1) no_term)))))) ∷ [])

-- int n = max(1099511627776 + 1, 0) - 1099511627776; subject to { }
abbrev pub great_part : ModelTree
great_part = stating ((IntDecl (codes "n") 4 [] (One (Node 8
    (t.Add (term false (Node 8 (t.Selected Greatest (tree (Node 12 (t.Add (term false (lit 12 1099511627776) (term false (lit 28 1) no_term)))) (tree (lit 31 0) no_tree))))
    (term true (lit 36 1099511627776) no_term)))))) ∷ [])

-- int n = (1099511627776 + 1 > 0); subject to { }
abbrev pub great_compared : ModelTree
great_compared = stating ((IntDecl (codes "n") 4 [] (One (Node 8 (t.Cmp Gt (Node 9 (t.Add (term false (lit 9 1099511627776) (term false (lit 25 1) no_term)))) (lit 29 0))))) ∷ [])

-- every part counts, also beside a factor 0 or a condition that is false:
--     int n = 0 * (1 div 0); subject to { }
abbrev pub times_zero : ModelTree
times_zero = stating ((IntDecl (codes "n") 4 [] (One (Node 8 (t.Mul (lit 8 0) (factor Times (Node 12 (t.Mul (lit 13 1) (factor Div (lit 19 0) no_factor))) no_factor))))) ∷ [])

-- int n = (0 == 1) && (1 div 0 == 1); subject to { }
abbrev pub not_spared : ModelTree
not_spared = stating ((IntDecl (codes "n") 4 [] (One (Node 8
    (t.And (tree (Node 8 (t.Cmp Eq (lit 9 0) (lit 14 1))) (tree (Node 20 (t.Cmp Eq (Node 21 (t.Mul (lit 21 1) (factor Div (lit 27 0) no_factor))) (lit 32 1))) no_tree)))))) ∷ [])

-- an index outside the array, and a divisor 0:
--     int a[1..2] = [5, 6]; int n = a[3]; subject to { }
abbrev pub outside_array : ModelTree
outside_array =
    stating (
    (IntDecl (codes "a") 4 ((record { binder = None; at = 6; range = Ends (lit 6 1) (lit 9 2) }) ∷ []) (Many 14 (init (One (lit 15 5)) (init (One (lit 18 6)) no_init))))
    ∷ (IntDecl (codes "n") 26 [] (One (Node 30 (t.Index (codes "a") (tree (lit 32 3) no_tree)))))
    ∷ [])

-- int n = 7 mod 0; subject to { }
abbrev pub rest_by_zero : ModelTree
rest_by_zero = stating ((IntDecl (codes "n") 4 [] (One (Node 8 (t.Mul (lit 8 7) (factor Mod (lit 14 0) no_factor))))) ∷ [])

-- int n = 5 div (0 - (0 == 1)); subject to { }
abbrev pub by_condition : ModelTree
by_condition = stating ((IntDecl (codes "n") 4 [] (One (Node 8
    (t.Mul (lit 8 5) (factor Div (Node 14 (t.Add (term false (lit 15 0) (term true (Node 19 (t.Cmp Eq (lit 20 0) (lit 25 1))) no_term)))) no_factor))))) ∷ [])

-- int a[1..2] = [2, 1]; int b = a[a[1]]; subject to { forall(i in 1..a[9]) 1 == 1; }
abbrev pub outside_later : ModelTree
outside_later = record {
  decls =
      (IntDecl (codes "a") 4 ((record { binder = None; at = 6; range = Ends (lit 6 1) (lit 9 2) }) ∷ []) (Many 14 (init (One (lit 15 2)) (init (One (lit 18 1)) no_init))))
      ∷ (IntDecl (codes "b") 26 [] (One (Node 30 (t.Index (codes "a") (tree (Node 32 (t.Index (codes "a") (tree (lit 34 1) no_tree))) no_tree)))))
      ∷ [];
  goal = None;
  body = (ForallTree (binder (codes "i") 59 (Ends (lit 64 1) (Node 67 (t.Index (codes "a") (tree (lit 69 9) no_tree)))) no_binder) (HardTree (Node 73 (t.Cmp Eq (lit 73 1) (lit 78 1))))) ∷ [];
}

-- the least constant is -2^40:
--     int n = -1099511627776 - 1; subject to { }
abbrev pub past_least : ModelTree
past_least = stating ((IntDecl (codes "n") 4 [] (One (Node 8 (t.Add (term false (Node 8 (t.Call Negative (lit 9 1099511627776))) (term true (lit 25 1) no_term)))))) ∷ [])

-- int a[0..0] = 7; int n = a[2 * 1099511627776]; subject to { }
abbrev pub great_index : ModelTree
great_index =
    stating (
    (IntDecl (codes "a") 4 ((record { binder = None; at = 6; range = Ends (lit 6 0) (lit 9 0) }) ∷ []) (One (lit 14 7)))
    ∷ (IntDecl (codes "n") 21 [] (One (Node 25 (t.Index (codes "a") (tree (Node 27 (t.Mul (lit 27 2) (factor Times (lit 31 1099511627776) no_factor))) no_tree)))))
    ∷ [])

-- Declarations that are refused, or at the edge of it.

-- a value that stands earlier is refused before its weight:
--     stoch int d in {1:1, 1:0}; subject to { }
abbrev pub twice_no_weight : ModelTree
twice_no_weight = stating ((StochDecl (codes "d") 10 [] ((lit 16 1, lit 18 1) ∷ (lit 21 1, lit 23 0) ∷ []) None) ∷ [])

-- stoch int d in {1:0, 1:1}; subject to { }
abbrev pub first_no_weight : ModelTree
first_no_weight = stating ((StochDecl (codes "d") 10 [] ((lit 16 1, lit 18 0) ∷ (lit 21 1, lit 23 1) ∷ []) None) ∷ [])

-- outcomes come in order, each value before its weight, and the stage comes last:
--     stoch int d in {1:1, (1 div 0):0} stage 99; subject to { }
abbrev pub outcome_by_zero : ModelTree
outcome_by_zero = stating ((StochDecl (codes "d") 10 [] ((lit 16 1, lit 18 1) ∷ (Node 21 (t.Mul (lit 22 1) (factor Div (lit 28 0) no_factor)), lit 31 0) ∷ []) (Some (lit 40 99))) ∷ [])

-- stoch int d in {1:1, 2:0} stage 25; subject to { }
abbrev pub weight_before_stage : ModelTree
weight_before_stage = stating ((StochDecl (codes "d") 10 [] ((lit 16 1, lit 18 1) ∷ (lit 21 2, lit 23 0) ∷ []) (Some (lit 32 25))) ∷ [])

-- stoch int d in {1:1, 1*1:2}; subject to { }
abbrev pub repeated_product : ModelTree
repeated_product = stating ((StochDecl (codes "d") 10 [] ((lit 16 1, lit 18 1) ∷ (Node 21 (t.Mul (lit 21 1) (factor Times (lit 23 1) no_factor)), lit 25 2) ∷ []) None) ∷ [])

-- stoch int d[i in 1..2] in {i:1, 2*i-2:i, 2:1}; subject to { }
abbrev pub repeated_at_two : ModelTree
repeated_at_two = stating ((StochDecl (codes "d") 10 ((record { binder = Some (codes "i"); at = 12; range = Ends (lit 17 1) (lit 20 2) }) ∷ [])
    ((var 27 (codes "i"), lit 29 1) ∷ (Node 32 (t.Add (term false (Node 32 (t.Mul (lit 32 2) (factor Times (var 34 (codes "i")) no_factor))) (term true (lit 36 2) no_term))), var 38 (codes "i"))
    ∷ (lit 41 2, lit 43 1) ∷ []) None) ∷ [])

-- 111 stands at the name of an empty range, or at the lower end:
--     range E = 2..1; dvar int x in E; subject to { }
abbrev pub empty_named_domain : ModelTree
empty_named_domain = stating ((RangeDecl (codes "E") 6 (lit 10 2) (lit 13 1)) ∷ (DvarDecl (codes "x") 25 [] (Named (codes "E") 30) None) ∷ [])

-- dvar int x in 70000..1; subject to { }
abbrev pub backward_domain : ModelTree
backward_domain = stating ((DvarDecl (codes "x") 9 [] (Ends (lit 14 70000) (lit 21 1)) None) ∷ [])

-- the domain comes before the stage:
--     dvar int x in 0..70000 stage 25; subject to { }
abbrev pub wide_before_stage : ModelTree
wide_before_stage = stating ((DvarDecl (codes "x") 9 [] (Ends (lit 14 0) (lit 17 70000)) (Some (lit 29 25))) ∷ [])

-- dvar int x in 1..0 stage 25; subject to { }
abbrev pub empty_before_stage : ModelTree
empty_before_stage = stating ((DvarDecl (codes "x") 9 [] (Ends (lit 14 1) (lit 17 0)) (Some (lit 25 25))) ∷ [])

-- dvar int x in 0..(1 div 0) stage 25; subject to { }
abbrev pub end_before_stage : ModelTree
end_before_stage = stating ((DvarDecl (codes "x") 9 [] (Ends (lit 14 0) (Node 17 (t.Mul (lit 18 1) (factor Div (lit 24 0) no_factor)))) (Some (lit 33 25))) ∷ [])

-- ranges and domains have 65536 numbers at most:
--     range R = -1099511627776..1099511627776; subject to { }
abbrev pub widest_range : ModelTree
widest_range = stating ((RangeDecl (codes "R") 6 (Node 10 (t.Call Negative (lit 11 1099511627776))) (lit 26 1099511627776)) ∷ [])

-- range R = 0..65535; dvar int x in R; dvar int y in 0..65535; subject to { }
abbrev pub full_domains : ModelTree
full_domains =
    stating (
    (RangeDecl (codes "R") 6 (lit 10 0) (lit 13 65535))
    ∷ (DvarDecl (codes "x") 29 [] (Named (codes "R") 34) None)
    ∷ (DvarDecl (codes "y") 46 [] (Ends (lit 51 0) (lit 54 65535)) None)
    ∷ [])

-- dvar int x[1..2][0..65536] in 0..(1 div 0); subject to { }
abbrev pub long_dimension : ModelTree
long_dimension = stating ((DvarDecl (codes "x") 9 ((record { binder = None; at = 11; range = Ends (lit 11 1) (lit 14 2) }) ∷ (record { binder = None; at = 17; range = Ends (lit 17 0) (lit 20 65536) })
    ∷ []) (Ends (lit 30 0) (Node 33 (t.Mul (lit 34 1) (factor Div (lit 40 0) no_factor)))) None) ∷ [])

-- 112 comes before the parts of its bracket:
--     int a[1..2][1..1] = [[1], [1 div 0, 2]]; subject to { }
abbrev pub longer_row : ModelTree
longer_row = stating ((IntDecl (codes "a") 4 ((record { binder = None; at = 6; range = Ends (lit 6 1) (lit 9 2) }) ∷ (record { binder = None; at = 12; range = Ends (lit 12 1) (lit 15 1) }) ∷ [])
    (Many 20 (init (Many 21 (init (One (lit 22 1)) no_init))
    (init (Many 26 (init (One (Node 27 (t.Mul (lit 27 1) (factor Div (lit 33 0) no_factor)))) (init (One (lit 36 2)) no_init))) no_init)))) ∷ [])

-- int a[1..2] = [1 div 0]; subject to { }
abbrev pub bracket_first : ModelTree
bracket_first = stating ((IntDecl (codes "a") 4 ((record { binder = None; at = 6; range = Ends (lit 6 1) (lit 9 2) }) ∷ [])
    (Many 14 (init (One (Node 15 (t.Mul (lit 15 1) (factor Div (lit 21 0) no_factor)))) no_init))) ∷ [])

-- stages are constant places of each element, from 1 to 24:
--     dvar int x[i in 1..2] in 0..1 stage 2-i; subject to { }
abbrev pub stage_zero : ModelTree
stage_zero = stating ((DvarDecl (codes "x") 9 ((record { binder = Some (codes "i"); at = 11; range = Ends (lit 16 1) (lit 19 2) }) ∷ []) (Ends (lit 25 0) (lit 28 1))
    (Some (Node 36 (t.Add (term false (lit 36 2) (term true (var 38 (codes "i")) no_term)))))) ∷ [])

-- dvar int x[1..2] in 0..1 stage 1 div 0; subject to { }
abbrev pub stage_by_zero : ModelTree
stage_by_zero = stating ((DvarDecl (codes "x") 9 ((record { binder = None; at = 11; range = Ends (lit 11 1) (lit 14 2) }) ∷ []) (Ends (lit 20 0) (lit 23 1))
    (Some (Node 31 (t.Mul (lit 31 1) (factor Div (lit 37 0) no_factor))))) ∷ [])

-- dvar int x[1..sum(i in 1..2) i] in 0..1 stage 24; stoch int d in {0:1} stage 24; subject to { }
abbrev pub last_stage : ModelTree
last_stage =
    stating (
    (DvarDecl (codes "x") 9 ((record { binder = None; at = 11; range = Ends (lit 11 1) (Node 14 (t.Sum (binder (codes "i") 18 (Ends (lit 23 1) (lit 26 2)) no_binder) (var 29 (codes "i")))) }) ∷ [])
    (Ends (lit 35 0) (lit 38 1)) (Some (lit 46 24)))
    ∷ (StochDecl (codes "d") 60 [] ((lit 66 0, lit 68 1) ∷ []) (Some (lit 77 24)))
    ∷ [])

-- {int} S = {1, 1 div 0, 2}; subject to { }
abbrev pub element_by_zero : ModelTree
element_by_zero = stating ((SetDecl (codes "S") 6 (tree (lit 11 1) (tree (Node 14 (t.Mul (lit 14 1) (factor Div (lit 20 0) no_factor))) (tree (lit 23 2) no_tree)))) ∷ [])

-- Constraints and objectives that are refused, or at the edge of it.

-- in a constraint, an end of a range is a constant place of its own, and so is a divisor:
--     dvar int x in 0..1; subject to { sum(i in 1..(1 div 0)) x >= 0; }
abbrev pub end_by_zero : ModelTree
end_by_zero = record {
  decls = (DvarDecl (codes "x") 9 [] (Ends (lit 14 0) (lit 17 1)) None) ∷ [];
  goal = None;
  body = (HardTree (Node 33 (t.Cmp Ge (Node 33 (t.Sum (binder (codes "i") 37 (Ends (lit 42 1) (Node 45 (t.Mul (lit 46 1) (factor Div (lit 52 0) no_factor)))) no_binder) (var 56 (codes "x"))))
      (lit 61 0)))) ∷ [];
}

-- dvar int x in 0..1; subject to { x div (2 - sum(i in 1..2) 1) == 0; }
abbrev pub divisor_of_sum : ModelTree
divisor_of_sum = record {
  decls = (DvarDecl (codes "x") 9 [] (Ends (lit 14 0) (lit 17 1)) None) ∷ [];
  goal = None;
  body = (HardTree (Node 33 (t.Cmp Eq (Node 33 (t.Mul (var 33 (codes "x"))
      (factor Div (Node 39 (t.Add (term false (lit 40 2) (term true (Node 44 (t.Sum (binder (codes "i") 48 (Ends (lit 53 1) (lit 56 2)) no_binder) (lit 59 1))) no_term)))) no_factor)))
      (lit 65 0)))) ∷ [];
}

-- dvar int x in 0..1; subject to { forall(i in 1..2) x div (2-i) == 0; }
abbrev pub divisor_at_two : ModelTree
divisor_at_two = record {
  decls = (DvarDecl (codes "x") 9 [] (Ends (lit 14 0) (lit 17 1)) None) ∷ [];
  goal = None;
  body = (ForallTree (binder (codes "i") 40 (Ends (lit 45 1) (lit 48 2)) no_binder)
      (HardTree (Node 51 (t.Cmp Eq (Node 51 (t.Mul (var 51 (codes "x")) (factor Div (Node 57 (t.Add (term false (lit 58 2) (term true (var 60 (codes "i")) no_term)))) no_factor))) (lit 66 0))))) ∷ [];
}

-- an index of a constraint is no constant place, a divisor is:
--     int a[1..2] = [2, 1]; dvar int x in 0..1; subject to { a[x + 7] == 1; x div a[a[1]] == 0; x mod (a[2] - 1) == 0; }
abbrev pub element_less_one : ModelTree
element_less_one = record {
  decls =
      (IntDecl (codes "a") 4 ((record { binder = None; at = 6; range = Ends (lit 6 1) (lit 9 2) }) ∷ []) (Many 14 (init (One (lit 15 2)) (init (One (lit 18 1)) no_init))))
      ∷ (DvarDecl (codes "x") 31 [] (Ends (lit 36 0) (lit 39 1)) None)
      ∷ [];
  goal = None;
  body =
      (HardTree (Node 55 (t.Cmp Eq (Node 55 (t.Index (codes "a") (tree (Node 57 (t.Add (term false (var 57 (codes "x")) (term false (lit 61 7) no_term)))) no_tree))) (lit 67 1))))
      ∷ (HardTree (Node 70 (t.Cmp Eq (Node 70 (t.Mul (var 70 (codes "x"))
      (factor Div (Node 76 (t.Index (codes "a") (tree (Node 78 (t.Index (codes "a") (tree (lit 80 1) no_tree))) no_tree))) no_factor))) (lit 87 0))))
      ∷ (HardTree (Node 90 (t.Cmp Eq (Node 90 (t.Mul (var 90 (codes "x"))
      (factor Mod (Node 96 (t.Add (term false (Node 97 (t.Index (codes "a") (tree (lit 99 2) no_tree))) (term true (lit 104 1) no_term)))) no_factor))) (lit 110 0))))
      ∷ [];
}

-- dvar int x in 0..1; minimize expected(sum(i in 1..2, j in 1..(i mod (2-i))) x); subject to { }
abbrev pub inner_divisor : ModelTree
inner_divisor = record {
  decls = (DvarDecl (codes "x") 9 [] (Ends (lit 14 0) (lit 17 1)) None) ∷ [];
  goal = Some (record {
    direction = Minimize;
    worst = false;
    expr =
        Node 38 (t.Sum (binder (codes "i") 42 (Ends (lit 47 1) (lit 50 2))
        (binder (codes "j") 53 (Ends (lit 58 1) (Node 61 (t.Mul (var 62 (codes "i")) (factor Mod (Node 68 (t.Add (term false (lit 69 2) (term true (var 71 (codes "i")) no_term)))) no_factor))))
        no_binder)) (var 76 (codes "x")));
  });
  body = [];
}

-- 115 stands at the numerator:
--     subject to { prob(1 == 2) >= -1/(2-2); }
abbrev pub no_denominator : ModelTree
no_denominator = asking ((ChanceTree (Node 18 (t.Cmp Eq (lit 18 1) (lit 23 2))) (Node 29 (t.Call Negative (lit 30 1))) (Node 32 (t.Add (term false (lit 33 2) (term true (lit 35 2) no_term))))) ∷ [])

-- subject to { prob(1 == 2) >= 1/1048577; }
abbrev pub great_denominator : ModelTree
great_denominator = asking ((ChanceTree (Node 18 (t.Cmp Eq (lit 18 1) (lit 23 2))) (lit 29 1) (lit 31 1048577)) ∷ [])

-- subject to { prob(1 == 2) >= 1048576/1048576; }
abbrev pub greatest_threshold : ModelTree
greatest_threshold = asking ((ChanceTree (Node 18 (t.Cmp Eq (lit 18 1) (lit 23 2))) (lit 29 1048576) (lit 37 1048576)) ∷ [])

-- subject to { prob(1 == 2) >= (1 div 0)/(2 div 0); }
abbrev pub both_by_zero : ModelTree
both_by_zero = asking ((ChanceTree (Node 18 (t.Cmp Eq (lit 18 1) (lit 23 2))) (Node 29 (t.Mul (lit 30 1) (factor Div (lit 36 0) no_factor)))
    (Node 39 (t.Mul (lit 40 2) (factor Div (lit 46 0) no_factor)))) ∷ [])

-- subject to { forall(i in 1..2) prob(1 == 1) >= i/1; }
abbrev pub threshold_of_two : ModelTree
threshold_of_two = asking ((ForallTree (binder (codes "i") 20 (Ends (lit 25 1) (lit 28 2)) no_binder) (ChanceTree (Node 36 (t.Cmp Eq (lit 36 1) (lit 41 1))) (var 47 (codes "i")) (lit 49 1))) ∷ [])

-- range R = 1..2; dvar int x[R] in 0..1; subject to { forall(i in R) { x[i] >= 0; prob(x[i] >= i) >= (3-i)/(i*i-i+1); } }
abbrev pub moving_threshold : ModelTree
moving_threshold = record {
  decls =
      (RangeDecl (codes "R") 6 (lit 10 1) (lit 13 2))
      ∷ (DvarDecl (codes "x") 25 ((record { binder = None; at = 27; range = Named (codes "R") 27 }) ∷ []) (Ends (lit 33 0) (lit 36 1)) None)
      ∷ [];
  goal = None;
  body = (ForallTree (binder (codes "i") 59 (Named (codes "R") 64) no_binder)
      (BlockTree (cons (HardTree (Node 69 (t.Cmp Ge (Node 69 (t.Index (codes "x") (tree (var 71 (codes "i")) no_tree))) (lit 77 0))))
      (cons (ChanceTree (Node 85 (t.Cmp Ge (Node 85 (t.Index (codes "x") (tree (var 87 (codes "i")) no_tree))) (var 93 (codes "i"))))
      (Node 99 (t.Add (term false (lit 100 3) (term true (var 102 (codes "i")) no_term))))
      (Node 105 (t.Add (term false (Node 106 (t.Mul (var 106 (codes "i")) (factor Times (var 108 (codes "i")) no_factor))) (term true (var 110 (codes "i")) (term false (lit 112 1) no_term))))))
      no_cons)))) ∷ [];
}

-- the condition comes before the threshold, and the objective before the constraints:
--     subject to { prob(1 div (1-1) == 0) >= 3/2; }
abbrev pub condition_first : ModelTree
condition_first = asking ((ChanceTree (Node 18 (t.Cmp Eq (Node 18 (t.Mul (lit 18 1) (factor Div (Node 24 (t.Add (term false (lit 25 1) (term true (lit 27 1) no_term)))) no_factor))) (lit 33 0)))
    (lit 39 3) (lit 41 2)) ∷ [])

-- dvar int x in 0..1; minimize expected(x div (1-1)); subject to { x div (2-2) == 0; }
abbrev pub objective_first : ModelTree
objective_first = record {
  decls = (DvarDecl (codes "x") 9 [] (Ends (lit 14 0) (lit 17 1)) None) ∷ [];
  goal = Some (record {
    direction = Minimize;
    worst = false;
    expr =
        Node 38 (t.Mul (var 38 (codes "x")) (factor Div (Node 44 (t.Add (term false (lit 45 1) (term true (lit 47 1) no_term)))) no_factor));
  });
  body = (HardTree (Node 65 (t.Cmp Eq (Node 65 (t.Mul (var 65 (codes "x")) (factor Div (Node 71 (t.Add (term false (lit 72 2) (term true (lit 74 2) no_term)))) no_factor))) (lit 80 0)))) ∷ [];
}

-- dvar int x in 0..1; subject to { forall(i in 1..2) sum(j in i..i+65536) x >= 0; }
abbrev pub moving_range : ModelTree
moving_range = record {
  decls = (DvarDecl (codes "x") 9 [] (Ends (lit 14 0) (lit 17 1)) None) ∷ [];
  goal = None;
  body = (ForallTree (binder (codes "i") 40 (Ends (lit 45 1) (lit 48 2)) no_binder)
      (HardTree (Node 51 (t.Cmp Ge (Node 51 (t.Sum (binder (codes "j") 55 (Ends (var 60 (codes "i")) (Node 63 (t.Add (term false (var 63 (codes "i")) (term false (lit 65 65536) no_term))))) no_binder)
      (var 72 (codes "x")))) (lit 77 0))))) ∷ [];
}

-- What is met first.

-- what comes first in the text counts, be it a refusal or a limit:
--     int n = (sum(i in 1..70000) 1) + (1 div 0); subject to { }
abbrev pub length_first : ModelTree
length_first = stating ((IntDecl (codes "n") 4 [] (One (Node 8
    (t.Add (term false (Node 8 (t.Sum (binder (codes "i") 13 (Ends (lit 18 1) (lit 21 70000)) no_binder) (lit 28 1)))
    (term false (Node 33 (t.Mul (lit 34 1) (factor Div (lit 40 0) no_factor))) no_term)))))) ∷ [])

-- int n = (1 div 0) + (sum(i in 1..70000) 1); subject to { }
abbrev pub divisor_first : ModelTree
divisor_first = stating ((IntDecl (codes "n") 4 [] (One (Node 8
    (t.Add (term false (Node 8 (t.Mul (lit 9 1) (factor Div (lit 15 0) no_factor)))
    (term false (Node 20 (t.Sum (binder (codes "i") 25 (Ends (lit 30 1) (lit 33 70000)) no_binder) (lit 40 1))) no_term)))))) ∷ [])

-- an element, a binding and a constraint are counted before what is met in them:
--     int a[i in 1..2] = 1 div (2-i); subject to { }
abbrev pub element_counted : ModelTree
element_counted = stating ((IntDecl (codes "a") 4 ((record { binder = Some (codes "i"); at = 6; range = Ends (lit 11 1) (lit 14 2) }) ∷ [])
    (One (Node 19 (t.Mul (lit 19 1) (factor Div (Node 25 (t.Add (term false (lit 26 2) (term true (var 28 (codes "i")) no_term)))) no_factor))))) ∷ [])

-- subject to { forall(i in 1..2, j in 1..(1 div (2-i))) 1 == 1; }
abbrev pub binding_counted : ModelTree
binding_counted = asking ((ForallTree (binder (codes "i") 20 (Ends (lit 25 1) (lit 28 2))
    (binder (codes "j") 31 (Ends (lit 36 1) (Node 39 (t.Mul (lit 40 1) (factor Div (Node 46 (t.Add (term false (lit 47 2) (term true (var 49 (codes "i")) no_term)))) no_factor)))) no_binder))
    (HardTree (Node 54 (t.Cmp Eq (lit 54 1) (lit 59 1))))) ∷ [])

-- subject to { forall(i in 1..1) prob(1 div (1-1) == 0) >= 1/2; }
abbrev pub constraint_counted : ModelTree
constraint_counted = asking ((ForallTree (binder (codes "i") 20 (Ends (lit 25 1) (lit 28 1)) no_binder)
    (ChanceTree (Node 36 (t.Cmp Eq (Node 36 (t.Mul (lit 36 1) (factor Div (Node 42 (t.Add (term false (lit 43 1) (term true (lit 45 1) no_term)))) no_factor))) (lit 51 0))) (lit 57 1)
    (lit 59 2))) ∷ [])
