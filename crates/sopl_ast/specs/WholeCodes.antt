-- How declarations are written as trees of numbers, one to one.
use Rattle.std.specs.Prelude.{◌≡◌, ℕ, Option, List, refl}
use Rattle.std.proofs.Common.{ap, arith}
use Rattle.std.specs.Coded.{Coded, code_by, coded_ℕ, coded_list, coded_option, coded×}
use base.Stored.{Gv, gnil, gnum, gcons, num}
use Rattle.sopl_ast.specs.Tree.{Tree, Range}
use Rattle.sopl_ast.specs.Codes.{pairs, inj_num, coded_text, coded_tree, coded_range, code_tree, inj_tree, code_trees, inj_trees, code_range, inj_range}
use Rattle.sopl_ast.specs.Whole.{DimTree, InitTree, One, Many, InitTrees, no_init, init, Declaration, IntDecl, RangeDecl, SetDecl, DvarDecl, StochDecl}

-- a dimension, as its name, its place and its range
abbrev pub coded_dim : Coded DimTree
coded_dim =
    code_by (Option (List ℕ) × (ℕ × Range)) (coded× (coded_option coded_text) (coded× coded_ℕ coded_range)) (λ d. (d.binder, (d.at, d.range)))
    (λ p. record { binder = p.0; at = p.1.0; range = p.1.1 }) (λ _. refl)

-- dimensions in order
abbrev pub coded_dims : Coded (List DimTree)
coded_dims = coded_list coded_dim

-- values with their weights
abbrev pub coded_dist : Coded (List (Tree × Tree))
coded_dist = coded_list (coded× coded_tree coded_tree)

-- a stage, if it is given
abbrev pub coded_stage : Coded (Option Tree)
coded_stage = coded_option coded_tree

abbrev mutual
  pub code_init : InitTree → Gv
  code_init (One x) = gcons (gnum 0) (coded_tree.code x)
  code_init (Many at xs) = gcons (gnum 1) (gcons (gnum at) (code_inits xs))

  pub code_inits : InitTrees → Gv
  code_inits no_init = gcons (gnum 0) gnil
  code_inits (init x xs) = gcons (gnum 1) (gcons (code_init x) (code_inits xs))

mutual
  pub inj_init : (x y : InitTree) → code_init x ≡ code_init y → x ≡ y
  inj_init (One x) (One y) e = λ i. One (coded_tree.inj x y (pairs e).1 i)
  inj_init (Many at xs) (Many bt ys) e = λ i. Many (inj_num at bt ((pairs (pairs e).1).0) i) (inj_inits xs ys ((pairs (pairs e).1).1) i)
  inj_init _ _ e = let f = ap num (pairs e).0 in absurd (omega arith)

  pub inj_inits : (x y : InitTrees) → code_inits x ≡ code_inits y → x ≡ y
  inj_inits no_init no_init e = refl
  inj_inits (init x xs) (init y ys) e = λ i. init (inj_init x y ((pairs (pairs e).1).0) i) (inj_inits xs ys ((pairs (pairs e).1).1) i)
  inj_inits _ _ e = let f = ap num (pairs e).0 in absurd (omega arith)

-- an initial value
abbrev pub coded_init : Coded InitTree
coded_init = record { code = code_init; inj = inj_init }

-- initial values in order
abbrev pub coded_inits : Coded (List InitTree)
coded_inits = coded_list coded_init

abbrev pub code_declaration : Declaration → Gv
code_declaration (IntDecl x1 x2 x3 x4) = gcons (gnum 0) (gcons (coded_text.code x1) (gcons (gnum x2) (gcons (coded_dims.code x3) (code_init x4))))
code_declaration (RangeDecl x1 x2 x3 x4) = gcons (gnum 1) (gcons (coded_text.code x1) (gcons (gnum x2) (gcons (code_tree x3) (code_tree x4))))
code_declaration (SetDecl x1 x2 x3) = gcons (gnum 2) (gcons (coded_text.code x1) (gcons (gnum x2) (code_trees x3)))
code_declaration (DvarDecl x1 x2 x3 x4 x5) = gcons (gnum 3) (gcons (coded_text.code x1) (gcons (gnum x2) (gcons (coded_dims.code x3) (gcons (code_range x4) (coded_stage.code x5)))))
code_declaration (StochDecl x1 x2 x3 x4 x5) = gcons (gnum 4) (gcons (coded_text.code x1) (gcons (gnum x2) (gcons (coded_dims.code x3) (gcons (coded_dist.code x4) (coded_stage.code x5)))))

pub inj_declaration : (x y : Declaration) → code_declaration x ≡ code_declaration y → x ≡ y
inj_declaration (IntDecl x1 x2 x3 x4) (IntDecl y1 y2 y3 y4) e =
    let e1 = (pairs e).1 in
    let e2 = (pairs e1).1 in
    let e3 = (pairs e2).1 in
    λ i. IntDecl (coded_text.inj x1 y1 (pairs e1).0 i) (inj_num x2 y2 (pairs e2).0 i) (coded_dims.inj x3 y3 (pairs e3).0 i) (inj_init x4 y4 (pairs e3).1 i)
inj_declaration (RangeDecl x1 x2 x3 x4) (RangeDecl y1 y2 y3 y4) e =
    let e1 = (pairs e).1 in
    let e2 = (pairs e1).1 in
    let e3 = (pairs e2).1 in
    λ i. RangeDecl (coded_text.inj x1 y1 (pairs e1).0 i) (inj_num x2 y2 (pairs e2).0 i) (inj_tree x3 y3 (pairs e3).0 i) (inj_tree x4 y4 (pairs e3).1 i)
inj_declaration (SetDecl x1 x2 x3) (SetDecl y1 y2 y3) e =
    let e1 = (pairs e).1 in
    let e2 = (pairs e1).1 in
    λ i. SetDecl (coded_text.inj x1 y1 (pairs e1).0 i) (inj_num x2 y2 (pairs e2).0 i) (inj_trees x3 y3 (pairs e2).1 i)
inj_declaration (DvarDecl x1 x2 x3 x4 x5) (DvarDecl y1 y2 y3 y4 y5) e =
    let e1 = (pairs e).1 in
    let e2 = (pairs e1).1 in
    let e3 = (pairs e2).1 in
    let e4 = (pairs e3).1 in
    λ i. DvarDecl (coded_text.inj x1 y1 (pairs e1).0 i) (inj_num x2 y2 (pairs e2).0 i) (coded_dims.inj x3 y3 (pairs e3).0 i) (inj_range x4 y4 (pairs e4).0 i) (coded_stage.inj x5 y5 (pairs e4).1 i)
inj_declaration (StochDecl x1 x2 x3 x4 x5) (StochDecl y1 y2 y3 y4 y5) e =
    let e1 = (pairs e).1 in
    let e2 = (pairs e1).1 in
    let e3 = (pairs e2).1 in
    let e4 = (pairs e3).1 in
    λ i. StochDecl (coded_text.inj x1 y1 (pairs e1).0 i) (inj_num x2 y2 (pairs e2).0 i) (coded_dims.inj x3 y3 (pairs e3).0 i) (coded_dist.inj x4 y4 (pairs e4).0 i)
    (coded_stage.inj x5 y5 (pairs e4).1 i)
inj_declaration _ _ e = let f = ap num (pairs e).0 in absurd (omega arith)

-- a declaration
abbrev pub coded_declaration : Coded Declaration
coded_declaration = record { code = code_declaration; inj = inj_declaration }

-- declarations in order
abbrev pub coded_declarations : Coded (List Declaration)
coded_declarations = coded_list coded_declaration
