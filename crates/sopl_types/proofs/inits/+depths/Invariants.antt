-- The loop has found no wrong part so far; and each call goes down in weight.
use Rattle.std.proofs.Common.{◌≡◌, drop, map}
use Rattle.sopl_ast.specs.Inits.{init_tree}
use Rattle.sopl_ast.specs.Mistakes.{first_of}
use Rattle.sopl_ast.specs.Whole.{inits}
use Rattle.sopl_ast.specs.WholeWeight.{weight_init, weight_inits}
use Rattle.sopl_types.specs.Depths.{wrong_left_parts}
use Rattle.sopl_types.specs.Earliest.{earliest}
use Rattle.sopl_types.proofs.inits.+depths.Given as goal

abbrev pub invariant-wrong_parts-parts : goal.invariant-wrong_parts-parts
invariant-wrong_parts-parts l =
    earliest (first_of (wrong_left_parts l.left (inits (map init_tree (drop l.part-index l.parts)))))
    ≡ earliest (first_of (wrong_left_parts l.left (inits (map init_tree l.parts))))

abbrev pub decreases-wrong_inside : goal.decreases-wrong_inside
decreases-wrong_inside l = weight_init (init_tree l.value.now)

abbrev pub decreases-wrong_parts : goal.decreases-wrong_parts
decreases-wrong_parts l = weight_inits (inits (map init_tree l.parts.now))
