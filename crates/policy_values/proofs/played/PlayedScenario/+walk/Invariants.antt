-- What each loop has done so far; and each call goes down in weight.
use Rattle.std.proofs.Common.{◌+◌, ◌*◌, drop, map}
use Rattle.sopl_ast.specs.Known.{Known}
use Rattle.sopl_ast.specs.Lists.{factors, terms, trees}
use Rattle.sopl_ast.specs.Meanings.{all_true, defined_values, meaning, product_value, some_true, sum_value}
use Rattle.sopl_ast.specs.Numbers.{all_of, task_of}
use Rattle.std.specs.Prelude.{option_map}
use Rattle.sopl_ast.specs.Weight.{weight, weight_of_trees, weight_of_terms, weight_factors, weight_of_binders}
use Rattle.unfold_constants.specs.Here.{known_in}
use Rattle.policy_values.specs.Listing.{task_numbers}
use Rattle.policy_values.specs.Played.{place_of}
use Rattle.policy_values.specs.Safe.{IsSafe}
use Rattle.policy_values.proofs.Loops.{IsLeft, IsMultiplied, IsSummed, IsTested, IsValued, same_list}
use Rattle.policy_values.proofs.played.PlayedScenario.+walk.Given as goal

abbrev pub decreases-number : goal.decreases-number
decreases-number l = 8 * weight l.e.now + 2

abbrev pub decreases-condition : goal.decreases-condition
decreases-condition l = 8 * weight l.e.now

abbrev pub decreases-truth : goal.decreases-truth
decreases-truth l = 8 * weight l.e.now + 1

abbrev pub decreases-called : goal.decreases-called
decreases-called l = 8 * weight l.e.now + 3

abbrev pub decreases-element : goal.decreases-element
decreases-element l = 8 * weight_of_trees l.at.now + 1

abbrev pub decreases-extreme : goal.decreases-extreme
decreases-extreme l = 8 * weight_of_trees l.parts.now + 1

abbrev pub decreases-values : goal.decreases-values
decreases-values l = 8 * weight_of_trees l.parts.now

abbrev pub decreases-sum : goal.decreases-sum
decreases-sum l = 8 * weight_of_terms l.parts.now

abbrev pub decreases-product : goal.decreases-product
decreases-product l = 8 * (weight l.parts.now.first + weight_factors (factors l.parts.now.others)) + 3

abbrev pub decreases-multiplied : goal.decreases-multiplied
decreases-multiplied l = 8 * weight_factors (factors l.parts.now) + 1

abbrev pub decreases-factor : goal.decreases-factor
decreases-factor l = 8 * weight l.part.now.1 + 4

abbrev pub decreases-times : goal.decreases-times
decreases-times l = 8 * weight l.e.now + 3

abbrev pub decreases-total : goal.decreases-total
decreases-total l = 8 * weight_of_binders l.over.now + 8 * weight l.e.now + 5

abbrev pub decreases-different : goal.decreases-different
decreases-different l = 8 * weight_of_binders l.over.now + 8 * weight l.e.now + 5

abbrev pub decreases-behind : goal.decreases-behind
decreases-behind l = 8 * weight_of_binders l.over.now + 8 * weight l.e.now + 4

abbrev pub decreases-values_at : goal.decreases-values_at
decreases-values_at l = 8 * weight l.e.now + 3

abbrev pub decreases-comparison : goal.decreases-comparison
decreases-comparison l = 8 * weight l.a.now + 8 * weight l.b.now + 3

abbrev pub decreases-negation : goal.decreases-negation
decreases-negation l = 8 * weight l.e.now + 1

abbrev pub decreases-implication : goal.decreases-implication
decreases-implication l = 8 * weight l.a.now + 8 * weight l.b.now + 3

abbrev pub decreases-all : goal.decreases-all
decreases-all l = 8 * weight_of_trees l.parts.now

abbrev pub decreases-some : goal.decreases-some
decreases-some l = 8 * weight_of_trees l.parts.now

abbrev pub decreases-cumulative : goal.decreases-cumulative
decreases-cumulative l =
    8 * weight_of_binders l.over.now + 8 * (weight l.task.now.start.now + weight l.task.now.duration.now + weight l.task.now.demand.now) + 8 * weight l.capacity.now + 6

abbrev pub decreases-tasks : goal.decreases-tasks
decreases-tasks l = 8 * weight_of_binders l.over.now + 8 * (weight l.task.now.start.now + weight l.task.now.duration.now + weight l.task.now.demand.now) + 5

abbrev pub decreases-tasks_at : goal.decreases-tasks_at
decreases-tasks_at l = 8 * (weight l.task.now.start.now + weight l.task.now.duration.now + weight l.task.now.demand.now) + 4

abbrev pub decreases-task : goal.decreases-task
decreases-task l = 8 * (weight l.task.now.start.now + weight l.task.now.duration.now + weight l.task.now.demand.now) + 3

abbrev pub invariant-values-parts : goal.invariant-values-parts
invariant-values-parts l =
    IsValued (place_of l.self (known_in l.known)) l.found.items (drop l.part-index l.parts) (defined_values (place_of l.self (known_in l.known)) (trees l.parts))

abbrev pub invariant-sum-parts : goal.invariant-sum-parts
invariant-sum-parts l =
    IsSummed (place_of l.self (known_in l.known)) l.sum.value l.part-index (drop l.part-index l.parts) (sum_value (place_of l.self (known_in l.known)) (terms l.parts))

abbrev pub invariant-multiplied-parts : goal.invariant-multiplied-parts
invariant-multiplied-parts l =
    IsMultiplied (place_of l.self (known_in l.known)) l.before (drop l.part-index l.parts) (product_value (place_of l.self (known_in l.known)) l.fn.first (factors l.parts))

abbrev pub invariant-values_at-here : goal.invariant-values_at-here
invariant-values_at-here l =
    IsLeft (λ (known : Known). IsSafe (place_of l.self known) l.e) (λ (known : Known). (meaning (place_of l.self known) l.e).value) same_list l.found.items
    (map known_in (drop l.known-index l.here)) (option_map same_list (all_of (λ (known : Known). (meaning (place_of l.self known) l.e).value) (map known_in l.here)))

abbrev pub invariant-all-parts : goal.invariant-all-parts
invariant-all-parts l =
    IsTested (place_of l.self (known_in l.known)) (all_true (place_of l.self (known_in l.known))) (drop l.part-index l.parts) (all_true (place_of l.self (known_in l.known)) (trees l.parts))

abbrev pub invariant-some-parts : goal.invariant-some-parts
invariant-some-parts l =
    IsTested (place_of l.self (known_in l.known)) (some_true (place_of l.self (known_in l.known))) (drop l.part-index l.parts) (some_true (place_of l.self (known_in l.known)) (trees l.parts))

abbrev pub invariant-tasks_at-here : goal.invariant-tasks_at-here
invariant-tasks_at-here l =
    IsLeft (λ (known : Known). IsSafe (place_of l.self known) l.task.start.now × IsSafe (place_of l.self known) l.task.duration.now × IsSafe (place_of l.self known) l.task.demand.now)
    (λ (known : Known). task_of (meaning (place_of l.self known) l.task.start.now).value (meaning (place_of l.self known) l.task.duration.now).value
    (meaning (place_of l.self known) l.task.demand.now).value) task_numbers l.found.items (map known_in (drop l.known-index l.here))
    (option_map task_numbers (all_of (λ (known : Known). task_of (meaning (place_of l.self known) l.task.start.now).value (meaning (place_of l.self known) l.task.duration.now).value
    (meaning (place_of l.self known) l.task.demand.now).value) (map known_in l.here)))
