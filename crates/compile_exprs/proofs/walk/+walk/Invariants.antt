-- Each loop has added what stands before; and each call goes down in weight.
use Rattle.std.proofs.Common.{◌+◌, ◌*◌, None, drop, map}
use Rattle.std.specs.List.{AllByRecursion}
use Rattle.compile_counts.specs.Walked.{AreWalked, TermsAreWalked}
use Rattle.compile_laws.specs.Instances.{chain_instance, conditions, instance, instances, tasks_of, terms_of}
use Rattle.compile_laws.specs.Subterms.{all_condition_subterms, all_subterms, part_subterms, task_subterms}
use Rattle.compile_scene.specs.Scenes.{place_of}
use Rattle.sopl_ast.specs.Known.{Known}
use Rattle.sopl_ast.specs.Lists.{factors, terms, trees}
use Rattle.sopl_ast.specs.Weight.{weight, weight_of_trees, weight_of_terms, weight_factors, weight_of_binders}
use Rattle.unfold_constants.specs.Here.{known_in}
use Rattle.compile_exprs.specs.Made.{AreConds, AreParts, AreTasks, AreTerms, IsBody, IsTaskBody}
use Rattle.compile_exprs.proofs.Loops.{IsLeft}
use Rattle.compile_exprs.proofs.Parts.{task_instance}
use Rattle.compile_exprs.proofs.Products.{IsFactored}
use Rattle.compile_exprs.proofs.walk.+walk.Given as goal

abbrev pub decreases-term : goal.decreases-term
decreases-term l = 4 * weight l.e.now + 1

abbrev pub decreases-condition : goal.decreases-condition
decreases-condition l = 4 * weight l.e.now

abbrev pub decreases-comparison : goal.decreases-comparison
decreases-comparison l = 4 * weight l.a.now + 4 * weight l.b.now + 2

abbrev pub decreases-implication : goal.decreases-implication
decreases-implication l = 4 * weight l.a.now + 4 * weight l.b.now + 2

abbrev pub decreases-indexed : goal.decreases-indexed
decreases-indexed l = 4 * weight_of_trees l.at.now + 1

abbrev pub decreases-terms : goal.decreases-terms
decreases-terms l = 4 * weight_of_trees l.parts.now

abbrev pub decreases-conditions : goal.decreases-conditions
decreases-conditions l = 4 * weight_of_trees l.parts.now

abbrev pub decreases-chain : goal.decreases-chain
decreases-chain l = 4 * weight_of_terms l.parts.now

abbrev pub decreases-product : goal.decreases-product
decreases-product l = 4 * (weight l.parts.now.first + weight_factors (factors l.parts.now.others)) + 2

abbrev pub decreases-multiply : goal.decreases-multiply
decreases-multiply l = 4 * weight_factors (factors l.parts.now)

abbrev pub decreases-factor : goal.decreases-factor
decreases-factor l = 4 * weight l.part.now.1 + 2

abbrev pub decreases-behind : goal.decreases-behind
decreases-behind l = 4 * weight_of_binders l.over.now + 4 * weight l.e.now + 3

abbrev pub decreases-each : goal.decreases-each
decreases-each l = 4 * weight l.e.now + 2

abbrev pub decreases-scheduled : goal.decreases-scheduled
decreases-scheduled l =
    4 * weight_of_binders l.over.now + 4 * (weight l.task.now.start.now + weight l.task.now.duration.now + weight l.task.now.demand.now) + 4 * weight l.most.now + 5

abbrev pub decreases-tasks_behind : goal.decreases-tasks_behind
decreases-tasks_behind l =
    4 * weight_of_binders l.over.now + 4 * (weight l.task.now.start.now + weight l.task.now.duration.now + weight l.task.now.demand.now) + 4

abbrev pub decreases-each_task : goal.decreases-each_task
decreases-each_task l = 4 * (weight l.task.now.start.now + weight l.task.now.duration.now + weight l.task.now.demand.now) + 3

abbrev pub decreases-one_task : goal.decreases-one_task
decreases-one_task l = 4 * (weight l.task.now.start.now + weight l.task.now.duration.now + weight l.task.now.demand.now) + 2

abbrev pub invariant-terms-parts : goal.invariant-terms-parts
invariant-terms-parts l =
    IsLeft (AreTerms l.scene.setting.now) all_subterms (λ es. AreWalked None (known_in l.known) (trees es)) (λ es. instances (place_of l.scene (known_in l.known)) (trees es)) l.scene.setting.now
    l.fn.work l.work l.ids.items (drop l.part-index l.parts) (instances (place_of l.scene (known_in l.known)) (trees l.parts))

abbrev pub invariant-conditions-parts : goal.invariant-conditions-parts
invariant-conditions-parts l =
    IsLeft (AreConds l.scene.setting.now) all_condition_subterms (λ es. AreWalked None (known_in l.known) (trees es)) (λ es. conditions (place_of l.scene (known_in l.known)) (trees es))
    l.scene.setting.now l.fn.work l.work l.ids.items (drop l.part-index l.parts) (conditions (place_of l.scene (known_in l.known)) (trees l.parts))

abbrev pub invariant-chain-parts : goal.invariant-chain-parts
invariant-chain-parts l =
    IsLeft (AreParts l.scene.setting.now) part_subterms (λ ps. TermsAreWalked None (known_in l.known) (terms ps)) (λ ps. chain_instance (place_of l.scene (known_in l.known)) (terms ps))
    l.scene.setting.now l.fn.work l.work l.ids.items (drop l.part-index l.parts) (chain_instance (place_of l.scene (known_in l.known)) (terms l.parts))

abbrev pub invariant-multiply-parts : goal.invariant-multiply-parts
invariant-multiply-parts l =
    IsFactored (place_of l.scene (known_in l.known)) l.scene.setting.now l.fn.work l.work l.fn.first.0 l.before.0 (drop l.part-index l.parts) l.parts

abbrev pub invariant-each-here : goal.invariant-each-here
invariant-each-here l =
    IsLeft (AreTerms l.scene.setting.now) all_subterms (AllByRecursion (IsBody l.scene.setting.now l.e))
    (λ here. terms_of (map (λ (known : Known). (instance (place_of l.scene known) l.e).term) here)) l.scene.setting.now l.fn.work l.work l.ids.items
    (map known_in (drop l.known-index l.here)) (terms_of (map (λ (known : Known). (instance (place_of l.scene known) l.e).term) (map known_in l.here)))

abbrev pub invariant-each_task-here : goal.invariant-each_task-here
invariant-each_task-here l =
    IsLeft (AreTasks l.scene.setting.now) task_subterms (AllByRecursion (IsTaskBody l.scene.setting.now l.task.start.now l.task.duration.now l.task.demand.now))
    (λ here. tasks_of (map (λ (known : Known). task_instance l.task.start.now l.task.duration.now l.task.demand.now (place_of l.scene known)) here)) l.scene.setting.now l.fn.work l.work l.ids.items
    (map known_in (drop l.known-index l.here))
    (tasks_of (map (λ (known : Known). task_instance l.task.start.now l.task.duration.now l.task.demand.now (place_of l.scene known)) (map known_in l.here)))
