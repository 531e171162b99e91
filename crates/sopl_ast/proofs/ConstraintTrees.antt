-- What a constraint shows, by its variant, and a list of constraints by its items.
use Rattle.std.proofs.Common.{◌≡◌, sym, ap, ◌∙◌, List, map}
use Rattle.std.specs.declared.alloc.Global.{Global}
use Rattle.std.specs.declared.boxed.Box.{Box}
use Rattle.sopl_ast.specs.Lists.{BinderTree, binders}
use Rattle.sopl_ast.specs.Tree.{Tree}
use Rattle.sopl_ast.specs.Whole.{ConsTree, ForallTree, BlockTree, HardTree, ChanceTree, conses}
use Rattle.sopl_ast.specs.Constraints.{cons_step, list_step, cons_tree, cons_trees}
use Rattle.sopl_ast.specs.declared.constraints.Cons.{Cons}
use Rattle.sopl_ast.specs.declared.constraints.ConsList.{ConsList}
use Rattle.sopl_ast.specs.declared.constraints.Cons.TheOpen.{Cons-F}
use Rattle.sopl_ast.specs.declared.constraints.Cons.TheViews.{out-ConsList}
use Rattle.sopl_ast.specs.declared.constraints.Cons.TheFolds.{fold-roll-Cons, fold_out-ConsList}
use Rattle.sopl_ast.specs.declared.constraints.Cons.TheVariants.{Forall, Block, Hard, Chance, rolls-Forall, rolls-Block, rolls-Hard, rolls-Chance}

pub cons_tree-Forall : (bs : List BinderTree) (c : Box Cons Global) → cons_tree (Forall bs c) ≡ ForallTree (binders bs) (cons_tree c.value)
cons_tree-Forall bs c = ap cons_tree (sym (rolls-Forall bs c)) ∙ fold-roll-Cons ConsTree (List ConsTree) cons_step list_step (Cons-F.Forall bs c)

pub cons_tree-Block : (cs : ConsList) → cons_tree (Block cs) ≡ BlockTree (conses (cons_trees cs))
cons_tree-Block cs = ap cons_tree (sym (rolls-Block cs)) ∙ fold-roll-Cons ConsTree (List ConsTree) cons_step list_step (Cons-F.Block cs)

pub cons_tree-Hard : (e : Tree) → cons_tree (Hard e) ≡ HardTree e
cons_tree-Hard e = ap cons_tree (sym (rolls-Hard e)) ∙ fold-roll-Cons ConsTree (List ConsTree) cons_step list_step (Cons-F.Hard e)

pub cons_tree-Chance : (e p q : Tree) → cons_tree (Chance e p q) ≡ ChanceTree e p q
cons_tree-Chance e p q = ap cons_tree (sym (rolls-Chance e p q)) ∙ fold-roll-Cons ConsTree (List ConsTree) cons_step list_step (Cons-F.Chance e p q)

pub cons_trees_out : (cs : ConsList) → cons_trees cs ≡ map cons_tree (out-ConsList cs).items.items
cons_trees_out cs = fold_out-ConsList ConsTree (List ConsTree) cons_step list_step cs

-- what a constraint and a list of constraints show
pub ruleset constraints = (cons_tree-Forall, cons_tree-Block, cons_tree-Hard, cons_tree-Chance, cons_trees_out)
