-- Each call goes down in weight; a function that hands an expression on as it is stands a little above the one that it calls.
use Rattle.std.proofs.Common.{◌+◌, ◌*◌}
use Rattle.sopl_ast.specs.Lists.{factors}
use Rattle.sopl_ast.specs.Ranges.{range_of}
use Rattle.sopl_ast.specs.Weight.{weight, weight_of_trees, weight_of_terms, weight_factors, weight_of_binder, weight_of_binders, weight_range}
use Rattle.compile_tests.proofs.printed.+expr.Given as goal

abbrev pub decreases-put_expr : goal.decreases-put_expr
decreases-put_expr l = 2 * weight l.e.now + 1

abbrev pub decreases-put_part : goal.decreases-put_part
decreases-put_part l = 2 * weight l.e.now + 2

abbrev pub decreases-put_parts : goal.decreases-put_parts
decreases-put_parts l = 2 * weight l.e.now

abbrev pub decreases-put_indices : goal.decreases-put_indices
decreases-put_indices l = 2 * weight_of_trees l.indices.now + 1

abbrev pub decreases-put_list : goal.decreases-put_list
decreases-put_list l = 2 * weight_of_trees l.parts.now + 1

abbrev pub decreases-put_terms : goal.decreases-put_terms
decreases-put_terms l = 2 * weight_of_terms l.parts.now + 1

abbrev pub decreases-put_factors : goal.decreases-put_factors
decreases-put_factors l = 2 * weight_factors (factors l.parts.now) + 1

abbrev pub decreases-put_binders : goal.decreases-put_binders
decreases-put_binders l = 2 * weight_of_binders l.over.now + 1

abbrev pub decreases-put_binder : goal.decreases-put_binder
decreases-put_binder l = 2 * weight_of_binder l.binder.now + 1

abbrev pub decreases-put_range : goal.decreases-put_range
decreases-put_range l = 2 * weight_range (range_of l.range.now) + 2

abbrev pub decreases-put_ends : goal.decreases-put_ends
decreases-put_ends l = 2 * (weight l.lo.now + weight l.hi.now + 1) + 1
