use Rattle.std.proofs.Common.{◌≡◌, ◌+◌, drop, map, length}
use Rattle.sopl_ast.specs.Constraints.{cons_tree}
use Rattle.sopl_ast.specs.Whole.{conses}
use Rattle.sopl_ast.specs.WholeWeight.{weight_cons, weight_conses}
use Rattle.unfold_constraints.proofs.Parts.{all_of}
use Rattle.unfold_constraints.proofs.numbering.+behind.Given as goal

abbrev pub decreases-behind : goal.decreases-behind
decreases-behind l = weight_cons (cons_tree l.constraint.now)

abbrev pub decreases-behind_all : goal.decreases-behind_all
decreases-behind_all l = weight_conses (conses (map cons_tree l.parts.now))

abbrev pub invariant-behind_all-parts : goal.invariant-behind_all-parts
invariant-behind_all-parts l = l.next + length (all_of (drop l.part-index l.parts)) ≡ l.fn.first + length (all_of l.parts)
