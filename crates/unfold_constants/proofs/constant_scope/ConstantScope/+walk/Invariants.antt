-- Each loop has walked through the parts so far; and each call goes down in weight.
use Rattle.std.proofs.Common.{◌≡◌, ◌+◌, ◌-◌, ◌*◌, drop, map}
use Rattle.sopl_ast.specs.Lists.{trees, terms, factors, binders}
use Rattle.sopl_ast.specs.UnfoldEvents.{most_counted}
use Rattle.sopl_ast.specs.References.{now_of}
use Rattle.sopl_ast.specs.Weight.{weight, weight_of_trees, weight_of_terms, weight_factors, weight_of_binders}
use Rattle.unfold_constants.specs.Here.{known_in}
use Rattle.unfold_constants.specs.Choosing.{give_name, leave_name, open_in, remaining}
use Rattle.unfold_constants.specs.Traversal as spec
use Rattle.unfold_constants.proofs.Body.{weight_of_body}
use Rattle.unfold_constants.proofs.constant_scope.ConstantScope.+walk.Given as goal

abbrev pub decreases-walk : goal.decreases-walk
decreases-walk l = 4 * weight l.e.now + 1

abbrev pub decreases-walk_all : goal.decreases-walk_all
decreases-walk_all l = 4 * weight_of_trees l.parts.now

abbrev pub decreases-walk_terms : goal.decreases-walk_terms
decreases-walk_terms l = 4 * weight_of_terms l.parts.now

abbrev pub decreases-walk_product : goal.decreases-walk_product
decreases-walk_product l = 4 * (weight l.parts.now.first + weight_factors (factors l.parts.now.others)) + 2

abbrev pub decreases-walk_factor : goal.decreases-walk_factor
decreases-walk_factor l = 4 * weight l.part.now.1 + 2

abbrev pub decreases-walk_over : goal.decreases-walk_over
decreases-walk_over l = 4 * weight_of_binders l.over.now + 4 * weight_of_body l.body.now + 4

abbrev pub decreases-walk_body : goal.decreases-walk_body
decreases-walk_body l = 4 * weight_of_body l.body.now + 2

abbrev pub invariant-walk_all-parts : goal.invariant-walk_all-parts
invariant-walk_all-parts l =
    spec.walk_all (known_in l.self) (trees (drop l.part-index l.parts)) l.count.counted ≡ spec.walk_all (known_in l.self) (trees l.parts) l.fn.count.counted

abbrev pub invariant-walk_terms-parts : goal.invariant-walk_terms-parts
invariant-walk_terms-parts l =
    spec.walk_terms (known_in l.self) (terms (drop l.part-index l.parts)) l.count.counted ≡ spec.walk_terms (known_in l.self) (terms l.parts) l.fn.count.counted

abbrev pub invariant-walk_product-parts : goal.invariant-walk_product-parts
invariant-walk_product-parts l =
    spec.walk_factors (known_in l.self) (factors (drop l.part-index l.parts.others)) l.count.counted
    ≡ spec.walk_product (known_in l.self) l.parts.first (factors l.parts.others) l.fn.count.counted

abbrev pub invariant-walk_body-body : goal.invariant-walk_body-body
invariant-walk_body-body l =
    spec.walk_all (known_in l.self) (trees (map now_of (drop l.part-index l.body))) l.count.counted
    ≡ spec.walk_all (known_in l.self) (trees (map now_of l.body)) l.fn.count.counted

abbrev pub decreases-walk_each : goal.decreases-walk_each
decreases-walk_each l = 4 * weight_of_binders l.over.now + 4 * weight l.part.now + 5

abbrev pub decreases-walk_tasks : goal.decreases-walk_tasks
decreases-walk_tasks l = 4 * weight_of_binders l.over.now + 4 * (weight l.task.now.start.now + weight l.task.now.duration.now + weight l.task.now.demand.now) + 5

abbrev pub decreases-walk_cumulative : goal.decreases-walk_cumulative
decreases-walk_cumulative l =
    4 * weight_of_binders l.over.now + 4 * (weight l.task.now.start.now + weight l.task.now.duration.now + weight l.task.now.demand.now) + 4 * weight l.capacity.now + 6

abbrev pub invariant-walk_over-choices : goal.invariant-walk_over-choices
invariant-walk_over-choices l =
    remaining give_name leave_name (spec.inside l.over (spec.walk_body (map now_of l.body))) (known_in l.choices.here) (open_in l.choices) tt l.count.counted
    ≡ spec.over (known_in l.self) (binders l.over) (spec.walk_body (map now_of l.body)) l.fn.count.counted

abbrev pub decreases-walk_over-choices : goal.decreases-walk_over-choices
decreases-walk_over-choices l = most_counted - l.count.counted

abbrev pub decreases-walk_inside : goal.decreases-walk_inside
decreases-walk_inside l = 4 * weight_of_binders l.over.now + 4 * weight_of_body l.body.now + 3
