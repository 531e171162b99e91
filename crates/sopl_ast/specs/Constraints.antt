-- What contracts see of a constraint, and of a list of constraints.
use Rattle.std.specs.Prelude.{List}
use Rattle.sopl_ast.specs.Lists.{binders}
use Rattle.sopl_ast.specs.Whole.{ConsTree, ForallTree, BlockTree, HardTree, ChanceTree, conses}
use Rattle.sopl_ast.specs.declared.constraints.Cons.{Cons}
use Rattle.sopl_ast.specs.declared.constraints.ConsList.{ConsList}
use Rattle.sopl_ast.specs.declared.constraints.Cons.TheOpen.{Cons-F, ConsList-F}
use Rattle.sopl_ast.specs.declared.constraints.Cons.TheFolds.{fold-Cons, fold-ConsList}

-- one constraint, with the trees of those inside it in their place
abbrev pub cons_step : Cons-F ConsTree (List ConsTree) → ConsTree
cons_step (Cons-F.Forall bs c) = ForallTree (binders bs) c.value
cons_step (Cons-F.Block cs) = BlockTree (conses cs)
cons_step (Cons-F.Hard e) = HardTree e
cons_step (Cons-F.Chance e p q) = ChanceTree e p q

-- one list of constraints, with their trees in their place
abbrev pub list_step : ConsList-F ConsTree (List ConsTree) → List ConsTree
list_step cs = cs.items.items

-- a constraint as plain data
abbrev pub cons_tree : Cons → ConsTree
cons_tree = fold-Cons ConsTree (List ConsTree) cons_step list_step

-- the constraints of a list, as plain data
abbrev pub cons_trees : ConsList → List ConsTree
cons_trees = fold-ConsList ConsTree (List ConsTree) cons_step list_step
