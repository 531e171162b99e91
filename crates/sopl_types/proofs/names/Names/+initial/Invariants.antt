-- The loop has found the first mistake of the parts so far; and each call goes down in weight.
use Rattle.std.proofs.Common.{◌≡◌, drop, map}
use Rattle.sopl_ast.specs.Inits.{init_tree}
use Rattle.sopl_ast.specs.Mistakes.{of_inits}
use Rattle.sopl_ast.specs.Whole.{inits}
use Rattle.sopl_ast.specs.WholeWeight.{weight_init, weight_inits}
use Rattle.sopl_types.specs.Earliest.{earlier_of, earliest}
use Rattle.sopl_types.specs.Known.{known_in}
use Rattle.sopl_types.proofs.names.Names.+initial.Given as goal

abbrev pub invariant-initial_parts-parts : goal.invariant-initial_parts-parts
invariant-initial_parts-parts l =
    earlier_of l.first (earliest (of_inits (known_in l.self) (inits (map init_tree (drop l.part-index l.parts)))))
    ≡ earliest (of_inits (known_in l.self) (inits (map init_tree l.parts)))

abbrev pub decreases-initial : goal.decreases-initial
decreases-initial l = weight_init (init_tree l.value.now)

abbrev pub decreases-initial_parts : goal.decreases-initial_parts
decreases-initial_parts l = weight_inits (inits (map init_tree l.parts.now))
