-- Each loop has counted the parts so far; and each call goes down in weight.
use Rattle.std.proofs.Common.{◌+◌, ◌*◌, drop, map}
use Rattle.std.specs.List.{AllByRecursion, sum_by}
use Rattle.sopl_ast.specs.Lists.{factors, terms, trees}
use Rattle.sopl_ast.specs.TermNodes.{all_nodes, factor_nodes, nodes, term_nodes}
use Rattle.sopl_ast.specs.Weight.{weight, weight_of_trees, weight_of_terms, weight_factors, weight_of_binders}
use Rattle.unfold_constants.specs.Here.{known_in}
use Rattle.compile_counts.specs.Walked.{AreWalked, FactorsAreWalked, IsWalked, TermsAreWalked}
use Rattle.compile_counts.proofs.Counting.{IsLeft}
use Rattle.compile_counts.proofs.expressions.+count.Given as goal

abbrev pub decreases-nodes_of : goal.decreases-nodes_of
decreases-nodes_of l = 3 * weight l.e.now + 1

abbrev pub decreases-nodes_of_all : goal.decreases-nodes_of_all
decreases-nodes_of_all l = 3 * weight_of_trees l.parts.now

abbrev pub decreases-nodes_of_terms : goal.decreases-nodes_of_terms
decreases-nodes_of_terms l = 3 * weight_of_terms l.parts.now

abbrev pub decreases-nodes_of_product : goal.decreases-nodes_of_product
decreases-nodes_of_product l = 3 * (weight l.parts.now.first + weight_factors (factors l.parts.now.others)) + 2

abbrev pub decreases-nodes_of_factors : goal.decreases-nodes_of_factors
decreases-nodes_of_factors l = 3 * weight_factors (factors l.parts.now)

abbrev pub decreases-nodes_of_both : goal.decreases-nodes_of_both
decreases-nodes_of_both l = 3 * weight l.a.now + 3 * weight l.b.now + 2

abbrev pub decreases-nodes_behind : goal.decreases-nodes_behind
decreases-nodes_behind l = 3 * weight_of_binders l.over.now + 3 * weight l.e.now + 3

abbrev pub decreases-nodes_at_each : goal.decreases-nodes_at_each
decreases-nodes_at_each l = 3 * weight l.e.now + 2

abbrev pub decreases-nodes_of_cumulative : goal.decreases-nodes_of_cumulative
decreases-nodes_of_cumulative l =
    3 * weight_of_binders l.over.now + 3 * (weight l.task.now.start.now + weight l.task.now.duration.now + weight l.task.now.demand.now) + 3 * weight l.capacity.now + 6

abbrev pub decreases-nodes_of_tasks : goal.decreases-nodes_of_tasks
decreases-nodes_of_tasks l =
    3 * weight_of_binders l.over.now + 3 * (weight l.task.now.start.now + weight l.task.now.duration.now + weight l.task.now.demand.now) + 5

abbrev pub decreases-nodes_of_each_task : goal.decreases-nodes_of_each_task
decreases-nodes_of_each_task l = 3 * (weight l.task.now.start.now + weight l.task.now.duration.now + weight l.task.now.demand.now) + 4

abbrev pub decreases-nodes_of_task : goal.decreases-nodes_of_task
decreases-nodes_of_task l = 3 * (weight l.task.now.start.now + weight l.task.now.duration.now + weight l.task.now.demand.now) + 3

abbrev pub invariant-nodes_of_all-parts : goal.invariant-nodes_of_all-parts
invariant-nodes_of_all-parts l =
    IsLeft (λ es. AreWalked l.whole (known_in l.known) (trees es)) (λ es. all_nodes (known_in l.known) (trees es)) l.sum.count (drop l.part-index l.parts)
    (all_nodes (known_in l.known) (trees l.parts))

abbrev pub invariant-nodes_of_terms-parts : goal.invariant-nodes_of_terms-parts
invariant-nodes_of_terms-parts l =
    IsLeft (λ ps. TermsAreWalked l.whole (known_in l.known) (terms ps)) (λ ps. term_nodes (known_in l.known) (terms ps)) l.sum.count (drop l.part-index l.parts)
    (term_nodes (known_in l.known) (terms l.parts))

abbrev pub invariant-nodes_of_factors-parts : goal.invariant-nodes_of_factors-parts
invariant-nodes_of_factors-parts l =
    IsLeft (λ ps. FactorsAreWalked l.whole (known_in l.known) (factors ps)) (λ ps. factor_nodes (known_in l.known) (factors ps)) l.sum.count (drop l.part-index l.parts)
    (factor_nodes (known_in l.known) (factors l.parts))

abbrev pub invariant-nodes_at_each-places : goal.invariant-nodes_at_each-places
invariant-nodes_at_each-places l =
    IsLeft (AllByRecursion (λ here. IsWalked l.whole here l.e)) (sum_by (λ here. nodes here l.e)) l.sum.count (map known_in (drop l.place-index l.places))
    (sum_by (λ here. nodes here l.e) (map known_in l.places))

abbrev pub invariant-nodes_of_each_task-places : goal.invariant-nodes_of_each_task-places
invariant-nodes_of_each_task-places l =
    IsLeft (AllByRecursion (λ here. IsWalked l.whole here l.task.start.now × IsWalked l.whole here l.task.duration.now × IsWalked l.whole here l.task.demand.now))
    (sum_by (λ here. nodes here l.task.start.now + (nodes here l.task.duration.now + nodes here l.task.demand.now))) l.sum.count (map known_in (drop l.place-index l.places))
    (sum_by (λ here. nodes here l.task.start.now + (nodes here l.task.duration.now + nodes here l.task.demand.now)) (map known_in l.places))
