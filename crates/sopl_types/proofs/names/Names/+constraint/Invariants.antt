-- The loop has found the first mistake of the constraints so far; and each call goes down in weight.
use Rattle.std.proofs.Common.{◌≡◌, drop, map}
use Rattle.sopl_ast.specs.Constraints.{cons_tree}
use Rattle.sopl_ast.specs.Mistakes.{of_constraints}
use Rattle.sopl_ast.specs.Whole.{conses}
use Rattle.sopl_ast.specs.WholeWeight.{weight_cons, weight_conses}
use Rattle.sopl_types.specs.Earliest.{earlier_of, earliest}
use Rattle.sopl_types.specs.Known.{known_in}
use Rattle.sopl_types.proofs.names.Names.+constraint.Given as goal

abbrev pub invariant-constraints-parts : goal.invariant-constraints-parts
invariant-constraints-parts l =
    earlier_of l.first (earliest (of_constraints (known_in l.self) (conses (map cons_tree (drop l.part-index l.parts)))))
    ≡ earliest (of_constraints (known_in l.self) (conses (map cons_tree l.parts)))

abbrev pub decreases-constraint : goal.decreases-constraint
decreases-constraint l = weight_cons (cons_tree l.constraint.now)

abbrev pub decreases-constraints : goal.decreases-constraints
decreases-constraints l = weight_conses (conses (map cons_tree l.parts.now))
