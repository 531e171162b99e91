use Rattle.std.proofs.Common.{◌≡◌, ◌++◌, drop, map}
use Rattle.sopl_ast.specs.Constraints.{cons_tree}
use Rattle.sopl_ast.specs.References.{now_of}
use Rattle.sopl_ast.specs.Whole.{conses}
use Rattle.sopl_ast.specs.WholeWeight.{weight_cons, weight_conses}
use Rattle.unfold_constraints.proofs.Parts.{all_of}
use Rattle.unfold_constraints.proofs.listing.+add.Given as goal

abbrev pub decreases-add_conditions : goal.decreases-add_conditions
decreases-add_conditions l = weight_cons (cons_tree l.constraint.now)

abbrev pub decreases-add_all : goal.decreases-add_all
decreases-add_all l = weight_conses (conses (map cons_tree l.parts.now))

abbrev pub invariant-add_all-parts : goal.invariant-add_all-parts
invariant-add_all-parts l = map now_of l.found.items ++ all_of (drop l.part-index l.parts) ≡ map now_of l.fn.found.items ++ all_of l.parts
