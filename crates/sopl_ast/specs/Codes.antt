-- Written by tools/proof_files from the constructors of `Tree`.
-- How a tree is written as a tree of numbers, one to one: by this a proof tells two trees apart.
use Rattle.std.specs.Prelude.{◌≡◌, ℕ, Bool, List, refl}
use Rattle.std.proofs.Common.{ap, arith, zero, suc}
use Rattle.std.specs.Coded.{Coded, code_by, coded_ℕ, coded_ℤ, coded_bool, coded_list, coded×}
use base.Stored.{Gv, gnil, gnum, gcons, num}
use Rattle.sopl_base.specs.declared.comparison.CmpOp.{CmpOp}
use Rattle.sopl_base.specs.declared.comparison.CmpOp.TheVariants.{Eq, Ne, Lt, Le, Gt, Ge}
use Rattle.sopl_base.specs.declared.extreme.Extreme.{Extreme}
use Rattle.sopl_base.specs.declared.extreme.Extreme.TheVariants.{Least, Greatest}
use Rattle.sopl_ast.specs.declared.operators.Function.{Function}
use Rattle.sopl_ast.specs.declared.operators.Function.TheVariants.{Negative, Size}
use Rattle.sopl_ast.specs.declared.operators.MulOp.{MulOp}
use Rattle.sopl_ast.specs.declared.operators.MulOp.TheVariants.{Times, Div, Mod}
use Rattle.sopl_ast.specs.Tree.{Tree, Node, Shape, Lit, Name, Index, Call, Add, Mul, Cmp, Not, And, Or, Implies, Sum, Selected, AllDifferent, Cumulative, Trees, no_tree}
use Rattle.sopl_ast.specs.Tree.{tree, Terms, no_term, term, Factors, no_factor, factor, Binders, no_binder, binder, Range, Named, Ends}
use Rattle.sopl_ast.specs.Lists.{BinderTree, Product}

abbrev prefix : Gv → Gv
prefix gnil = gnil
prefix (gnum n) = gnil
prefix (gcons a b) = a

abbrev back : Gv → Gv
back gnil = gnil
back (gnum n) = gnil
back (gcons a b) = b

-- the parts of two equal pairs are equal
abbrev pub pairs : {a b c d : Gv} → gcons a b ≡ gcons c d → (a ≡ c) × (b ≡ d)
pairs e = (ap prefix e, ap back e)

-- two equal codes of numbers are of one number
abbrev pub inj_num : (x y : ℕ) → gnum x ≡ gnum y → x ≡ y
inj_num x y e = ap num e

abbrev number_of_cmp : CmpOp → ℕ
number_of_cmp Eq = 0
number_of_cmp Ne = 1
number_of_cmp Lt = 2
number_of_cmp Le = 3
number_of_cmp Gt = 4
number_of_cmp Ge = 5

abbrev cmp_of_number : ℕ → CmpOp
cmp_of_number zero = Eq
cmp_of_number (suc zero) = Ne
cmp_of_number (suc (suc zero)) = Lt
cmp_of_number (suc (suc (suc zero))) = Le
cmp_of_number (suc (suc (suc (suc zero)))) = Gt
cmp_of_number (suc (suc (suc (suc (suc n))))) = Ge

pub cmp_of_number-number_of_cmp : (op : CmpOp) → cmp_of_number (number_of_cmp op) ≡ op
cmp_of_number-number_of_cmp Eq = refl
cmp_of_number-number_of_cmp Ne = refl
cmp_of_number-number_of_cmp Lt = refl
cmp_of_number-number_of_cmp Le = refl
cmp_of_number-number_of_cmp Gt = refl
cmp_of_number-number_of_cmp Ge = refl

-- a comparison, by a number
abbrev pub coded_cmp : Coded CmpOp
coded_cmp = code_by ℕ coded_ℕ number_of_cmp cmp_of_number cmp_of_number-number_of_cmp

abbrev number_of_mul : MulOp → ℕ
number_of_mul Times = 0
number_of_mul Div = 1
number_of_mul Mod = 2

abbrev mul_of_number : ℕ → MulOp
mul_of_number zero = Times
mul_of_number (suc zero) = Div
mul_of_number (suc (suc n)) = Mod

pub mul_of_number-number_of_mul : (op : MulOp) → mul_of_number (number_of_mul op) ≡ op
mul_of_number-number_of_mul Times = refl
mul_of_number-number_of_mul Div = refl
mul_of_number-number_of_mul Mod = refl

-- an operator of a product, by a number
abbrev pub coded_mul : Coded MulOp
coded_mul = code_by ℕ coded_ℕ number_of_mul mul_of_number mul_of_number-number_of_mul

abbrev number_of_function : Function → ℕ
number_of_function Negative = 0
number_of_function Size = 1

abbrev function_of_number : ℕ → Function
function_of_number zero = Negative
function_of_number (suc n) = Size

pub function_of_number-number_of_function : (op : Function) → function_of_number (number_of_function op) ≡ op
function_of_number-number_of_function Negative = refl
function_of_number-number_of_function Size = refl

-- a function, by a number
abbrev pub coded_function : Coded Function
coded_function = code_by ℕ coded_ℕ number_of_function function_of_number function_of_number-number_of_function

abbrev number_of_extreme : Extreme → ℕ
number_of_extreme Least = 0
number_of_extreme Greatest = 1

abbrev extreme_of_number : ℕ → Extreme
extreme_of_number zero = Least
extreme_of_number (suc n) = Greatest

pub extreme_of_number-number_of_extreme : (op : Extreme) → extreme_of_number (number_of_extreme op) ≡ op
extreme_of_number-number_of_extreme Least = refl
extreme_of_number-number_of_extreme Greatest = refl

-- which of several is taken, by a number
abbrev pub coded_extreme : Coded Extreme
coded_extreme = code_by ℕ coded_ℕ number_of_extreme extreme_of_number extreme_of_number-number_of_extreme

-- a name, by its bytes
abbrev pub coded_text : Coded (List ℕ)
coded_text = coded_list coded_ℕ

abbrev mutual
  pub code_tree : Tree → Gv
  code_tree (Node at shape) = gcons (gnum at) (code_shape shape)

  pub code_shape : Shape → Gv
  code_shape (Lit x1) = gcons (gnum 0) (coded_ℤ.code x1)
  code_shape (Name x1) = gcons (gnum 1) (coded_text.code x1)
  code_shape (Index x1 x2) = gcons (gnum 2) (gcons (coded_text.code x1) (code_trees x2))
  code_shape (Call x1 x2) = gcons (gnum 3) (gcons (coded_function.code x1) (code_tree x2))
  code_shape (Add x1) = gcons (gnum 4) (code_terms x1)
  code_shape (Mul x1 x2) = gcons (gnum 5) (gcons (code_tree x1) (code_factors x2))
  code_shape (Cmp x1 x2 x3) = gcons (gnum 6) (gcons (coded_cmp.code x1) (gcons (code_tree x2) (code_tree x3)))
  code_shape (Not x1) = gcons (gnum 7) (code_tree x1)
  code_shape (And x1) = gcons (gnum 8) (code_trees x1)
  code_shape (Or x1) = gcons (gnum 9) (code_trees x1)
  code_shape (Implies x1 x2) = gcons (gnum 10) (gcons (code_tree x1) (code_tree x2))
  code_shape (Sum x1 x2) = gcons (gnum 11) (gcons (code_binders x1) (code_tree x2))
  code_shape (Selected x1 x2) = gcons (gnum 12) (gcons (coded_extreme.code x1) (code_trees x2))
  code_shape (AllDifferent x1 x2) = gcons (gnum 13) (gcons (code_binders x1) (code_tree x2))
  code_shape (Cumulative x1 x2 x3 x4 x5) = gcons (gnum 14) (gcons (code_binders x1) (gcons (code_tree x2) (gcons (code_tree x3) (gcons (code_tree x4) (code_tree x5)))))

  pub code_trees : Trees → Gv
  code_trees no_tree = gcons (gnum 0) gnil
  code_trees (tree x1 x2) = gcons (gnum 1) (gcons (code_tree x1) (code_trees x2))

  pub code_terms : Terms → Gv
  code_terms no_term = gcons (gnum 0) gnil
  code_terms (term x1 x2 x3) = gcons (gnum 1) (gcons (coded_bool.code x1) (gcons (code_tree x2) (code_terms x3)))

  pub code_factors : Factors → Gv
  code_factors no_factor = gcons (gnum 0) gnil
  code_factors (factor x1 x2 x3) = gcons (gnum 1) (gcons (coded_mul.code x1) (gcons (code_tree x2) (code_factors x3)))

  pub code_binders : Binders → Gv
  code_binders no_binder = gcons (gnum 0) gnil
  code_binders (binder x1 x2 x3 x4) = gcons (gnum 1) (gcons (coded_text.code x1) (gcons (gnum x2) (gcons (code_range x3) (code_binders x4))))

  pub code_range : Range → Gv
  code_range (Named x1 x2) = gcons (gnum 0) (gcons (coded_text.code x1) (gnum x2))
  code_range (Ends x1 x2) = gcons (gnum 1) (gcons (code_tree x1) (code_tree x2))

mutual
  pub inj_tree : (x y : Tree) → code_tree x ≡ code_tree y → x ≡ y
  inj_tree (Node x1 x2) (Node y1 y2) e = λ i. Node (inj_num x1 y1 (pairs e).0 i) (inj_shape x2 y2 (pairs e).1 i)

  pub inj_shape : (x y : Shape) → code_shape x ≡ code_shape y → x ≡ y
  inj_shape (Lit x1) (Lit y1) e = λ i. Lit (coded_ℤ.inj x1 y1 (pairs e).1 i)
  inj_shape (Name x1) (Name y1) e = λ i. Name (coded_text.inj x1 y1 (pairs e).1 i)
  inj_shape (Index x1 x2) (Index y1 y2) e = λ i. Index (coded_text.inj x1 y1 ((pairs (pairs e).1).0) i) (inj_trees x2 y2 ((pairs (pairs e).1).1) i)
  inj_shape (Call x1 x2) (Call y1 y2) e = λ i. Call (coded_function.inj x1 y1 ((pairs (pairs e).1).0) i) (inj_tree x2 y2 ((pairs (pairs e).1).1) i)
  inj_shape (Add x1) (Add y1) e = λ i. Add (inj_terms x1 y1 (pairs e).1 i)
  inj_shape (Mul x1 x2) (Mul y1 y2) e = λ i. Mul (inj_tree x1 y1 ((pairs (pairs e).1).0) i) (inj_factors x2 y2 ((pairs (pairs e).1).1) i)
  inj_shape (Cmp x1 x2 x3) (Cmp y1 y2 y3) e = λ i. Cmp (coded_cmp.inj x1 y1 ((pairs (pairs e).1).0) i) (inj_tree x2 y2 ((pairs (pairs (pairs e).1).1).0) i)
      (inj_tree x3 y3 ((pairs ((pairs (pairs e).1).1)).1) i)
  inj_shape (Not x1) (Not y1) e = λ i. Not (inj_tree x1 y1 (pairs e).1 i)
  inj_shape (And x1) (And y1) e = λ i. And (inj_trees x1 y1 (pairs e).1 i)
  inj_shape (Or x1) (Or y1) e = λ i. Or (inj_trees x1 y1 (pairs e).1 i)
  inj_shape (Implies x1 x2) (Implies y1 y2) e = λ i. Implies (inj_tree x1 y1 ((pairs (pairs e).1).0) i) (inj_tree x2 y2 ((pairs (pairs e).1).1) i)
  inj_shape (Sum x1 x2) (Sum y1 y2) e = λ i. Sum (inj_binders x1 y1 ((pairs (pairs e).1).0) i) (inj_tree x2 y2 ((pairs (pairs e).1).1) i)
  inj_shape (Selected x1 x2) (Selected y1 y2) e = λ i. Selected (coded_extreme.inj x1 y1 ((pairs (pairs e).1).0) i) (inj_trees x2 y2 ((pairs (pairs e).1).1) i)
  inj_shape (AllDifferent x1 x2) (AllDifferent y1 y2) e = λ i. AllDifferent (inj_binders x1 y1 ((pairs (pairs e).1).0) i) (inj_tree x2 y2 ((pairs (pairs e).1).1) i)
  inj_shape (Cumulative x1 x2 x3 x4 x5) (Cumulative y1 y2 y3 y4 y5) e = λ i.
      Cumulative (inj_binders x1 y1 ((pairs (pairs e).1).0) i) (inj_tree x2 y2 ((pairs (pairs (pairs e).1).1).0) i) (inj_tree x3 y3 ((pairs (pairs ((pairs (pairs e).1).1)).1).0) i)
      (inj_tree x4 y4 ((pairs (pairs ((pairs ((pairs (pairs e).1).1)).1)).1).0) i) (inj_tree x5 y5 ((pairs ((pairs ((pairs ((pairs (pairs e).1).1)).1)).1)).1) i)
  inj_shape _ _ e = let f = ap num (pairs e).0 in absurd (omega arith)

  pub inj_trees : (x y : Trees) → code_trees x ≡ code_trees y → x ≡ y
  inj_trees no_tree no_tree e = refl
  inj_trees (tree x1 x2) (tree y1 y2) e = λ i. tree (inj_tree x1 y1 ((pairs (pairs e).1).0) i) (inj_trees x2 y2 ((pairs (pairs e).1).1) i)
  inj_trees _ _ e = let f = ap num (pairs e).0 in absurd (omega arith)

  pub inj_terms : (x y : Terms) → code_terms x ≡ code_terms y → x ≡ y
  inj_terms no_term no_term e = refl
  inj_terms (term x1 x2 x3) (term y1 y2 y3) e = λ i. term (coded_bool.inj x1 y1 ((pairs (pairs e).1).0) i) (inj_tree x2 y2 ((pairs (pairs (pairs e).1).1).0) i)
      (inj_terms x3 y3 ((pairs ((pairs (pairs e).1).1)).1) i)
  inj_terms _ _ e = let f = ap num (pairs e).0 in absurd (omega arith)

  pub inj_factors : (x y : Factors) → code_factors x ≡ code_factors y → x ≡ y
  inj_factors no_factor no_factor e = refl
  inj_factors (factor x1 x2 x3) (factor y1 y2 y3) e = λ i. factor (coded_mul.inj x1 y1 ((pairs (pairs e).1).0) i) (inj_tree x2 y2 ((pairs (pairs (pairs e).1).1).0) i)
      (inj_factors x3 y3 ((pairs ((pairs (pairs e).1).1)).1) i)
  inj_factors _ _ e = let f = ap num (pairs e).0 in absurd (omega arith)

  pub inj_binders : (x y : Binders) → code_binders x ≡ code_binders y → x ≡ y
  inj_binders no_binder no_binder e = refl
  inj_binders (binder x1 x2 x3 x4) (binder y1 y2 y3 y4) e = λ i.
      binder (coded_text.inj x1 y1 ((pairs (pairs e).1).0) i) (inj_num x2 y2 ((pairs (pairs (pairs e).1).1).0) i) (inj_range x3 y3 ((pairs (pairs ((pairs (pairs e).1).1)).1).0) i)
      (inj_binders x4 y4 ((pairs ((pairs ((pairs (pairs e).1).1)).1)).1) i)
  inj_binders _ _ e = let f = ap num (pairs e).0 in absurd (omega arith)

  pub inj_range : (x y : Range) → code_range x ≡ code_range y → x ≡ y
  inj_range (Named x1 x2) (Named y1 y2) e = λ i. Named (coded_text.inj x1 y1 ((pairs (pairs e).1).0) i) (inj_num x2 y2 ((pairs (pairs e).1).1) i)
  inj_range (Ends x1 x2) (Ends y1 y2) e = λ i. Ends (inj_tree x1 y1 ((pairs (pairs e).1).0) i) (inj_tree x2 y2 ((pairs (pairs e).1).1) i)
  inj_range _ _ e = let f = ap num (pairs e).0 in absurd (omega arith)

-- a tree
abbrev pub coded_tree : Coded Tree
coded_tree = record { code = code_tree; inj = inj_tree }

-- a range
abbrev pub coded_range : Coded Range
coded_range = record { code = code_range; inj = inj_range }

-- expressions in order
abbrev pub coded_trees : Coded (List Tree)
coded_trees = coded_list coded_tree

-- the parts of a chain of `+` and `-`
abbrev pub coded_terms : Coded (List (Bool × Tree))
coded_terms = coded_list (coded× coded_bool coded_tree)

-- what follows the first part of a product
abbrev pub coded_factors : Coded (List (MulOp × Tree))
coded_factors = coded_list (coded× coded_mul coded_tree)

-- a product, as its first part and the others
abbrev pub coded_product : Coded Product
coded_product =
    code_by (Tree × List (MulOp × Tree)) (coded× coded_tree coded_factors) (λ p. (p.first, p.others)) (λ p. record { first = p.0; others = p.1 })
    (λ _. refl)

-- a binder, as its name, its place and its range
abbrev pub coded_binder : Coded BinderTree
coded_binder =
    code_by (List ℕ × (ℕ × Range)) (coded× coded_text (coded× coded_ℕ coded_range)) (λ b. (b.name, (b.at, b.range)))
    (λ p. record { name = p.0; at = p.1.0; range = p.1.1 }) (λ _. refl)

-- binders in order
abbrev pub coded_binders : Coded (List BinderTree)
coded_binders = coded_list coded_binder
