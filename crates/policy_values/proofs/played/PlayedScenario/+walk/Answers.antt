use Rattle.std.proofs.Common.{rules, arith, ◌≡◌, ◌∙◌, sym, ap, subst, option_map, ◌*◌, ◌+◌, ◌+ℤ◌, ◌++◌, ◌≤◌, ◌∷◌, [], unsigned_abs, neg_ℤ, map, if◌then◌else◌}
use Rattle.sopl_base.proofs.Lists.{drop_next}
use Rattle.sopl_ast.proofs.Lighter.{weight-trees, weight-terms, weight-factors}
use Rattle.sopl_ast.specs.Constants.{all_bindings}
use Rattle.sopl_ast.specs.Lists.{binders}
use Rattle.sopl_ast.specs.Meanings.{Place, fit, meaning}
use Rattle.sopl_ast.specs.Numbers.{all_of, task_of}
use Rattle.sopl_ast.specs.Weight.{weight}
use Rattle.unfold_constants.specs.Here.{known_in}
use Rattle.policy_values.specs.Listing.{task_numbers}
use Rattle.policy_values.specs.Played.{place_of}
use Rattle.policy_values.proofs.Loops.{bound_more, multiplied_holds, places_are, summed_holds, summed_more, tasks_back, valued_holds, valued_more}
use Rattle.policy_values.proofs.Loops.{tested_holds, truth_either, values_either}
use Rattle.policy_values.proofs.played.PlayedScenario.+walk.Goals as goal

pub all-condition-requires : goal.all-condition-requires
all-condition-requires t c = (
  omega (arith, weight-trees c.args.parts.now c.parts.part-index c.part-item.result c.parts-test.true, ap weight c.part-item.is),
  (
    c.requires.played,
    tested_holds _ _ _ c.part-item.result _ (drop_next c.args.parts.now c.parts.part-index c.part-item.result c.parts-test.true c.part-item.is) _ c.parts.invariant,
  ),
)

pub some-condition-requires : goal.some-condition-requires
some-condition-requires t c = (
  omega (arith, weight-trees c.args.parts.now c.parts.part-index c.part-item.result c.parts-test.true, ap weight c.part-item.is),
  (
    c.requires.played,
    tested_holds _ _ _ c.part-item.result _ (drop_next c.args.parts.now c.parts.part-index c.part-item.result c.parts-test.true c.part-item.is) _ c.parts.invariant,
  ),
)

pub behind-returns : goal.behind-returns
behind-returns t c =
    record {
      values = values_either c.values_at.result _ _
          (ap (all_of (λ known. (meaning (place_of c.args.self.now known) c.args.e.now).value))
          (ap (map known_in) c.as_slice-2.ensures.value ∙ c.in_ok-here.ensures.places ∙ ap (λ bs. all_bindings (known_in c.args.known.now) (binders bs)) c.as_slice.ensures.items)
          ∙ places_are (λ (place : Place). (meaning place c.args.e.now).value) c.args.self.now (known_in c.args.known.now) (all_bindings (known_in c.args.known.now) (binders c.args.over.now)))
          c.values_at.ensures.values;
    }

pub tasks-returns : goal.tasks-returns
tasks-returns t c =
    record {
      tasks = values_either c.tasks_at.result _ _
          (ap (λ (o : _). option_map task_numbers o)
          (ap
          (all_of (λ known. task_of (meaning (place_of c.args.self.now known) c.args.task.now.start.now).value (meaning (place_of c.args.self.now known) c.args.task.now.duration.now).value
          (meaning (place_of c.args.self.now known) c.args.task.now.demand.now).value))
          (ap (map known_in) c.as_slice-2.ensures.value ∙ c.in_ok-here.ensures.places ∙ ap (λ bs. all_bindings (known_in c.args.known.now) (binders bs)) c.as_slice.ensures.items)
          ∙ places_are
          (λ (place : Place). task_of (meaning place c.args.task.now.start.now).value (meaning place c.args.task.now.duration.now).value (meaning place c.args.task.now.demand.now).value)
          c.args.self.now (known_in c.args.known.now) (all_bindings (known_in c.args.known.now) (binders c.args.over.now))))
          c.tasks_at.ensures.tasks;
    }

pub cumulative-returns : goal.cumulative-returns
cumulative-returns t c =
    record { truth = truth_either c.fit.result _ _ (λ i. fit (tasks_back c.in_ok-tasks.tasks _ c.in_ok-tasks.ensures.tasks i) (c.in_ok-most.ensures.value i)) c.fit.ensures.holds }

pub multiplied-factor-requires : goal.multiplied-factor-requires
multiplied-factor-requires t c = (
  omega (arith, weight-factors c.args.parts.now c.parts.part-index c.part-item.result c.parts-test.true, ap (λ p. weight p.1) c.part-item.is),
  (
    c.requires.played,
    multiplied_holds _ _ _ _ c.part-item.result _ (drop_next c.args.parts.now c.parts.part-index c.part-item.result c.parts-test.true c.part-item.is) c.parts.invariant,
  ),
)

pub sum-number-requires : goal.sum-number-requires
sum-number-requires t c = (
  omega (arith, weight-terms c.args.parts.now c.parts.part-index c.part-item.result c.parts-test.true, ap (λ p. weight p.1) c.part-item.is),
  (
    c.requires.played,
    summed_holds _ _ _ _ _ c.part-item.result _ (drop_next c.args.parts.now c.parts.part-index c.part-item.result c.parts-test.true c.part-item.is) c.parts.invariant,
  ),
)

pub sum-parts-preserved : goal.sum-parts-preserved
sum-parts-preserved t c =
    let small : unsigned_abs c.in-Some.x ≤ 9223372036854775808 = search rules in
    let put : c.with_number-sum.result.value ≡ c.parts.sum.value +ℤ (if c.part-item.result.0 then neg_ℤ c.in-Some.x else c.in-Some.x) = search rules in
    summed_more _ _ _ _ _ c.part-item.result _ c.in-Some.x c.with_number-sum.result.value (c.parts.part-index + 1)
    (drop_next c.args.parts.now c.parts.part-index c.part-item.result c.parts-test.true c.part-item.is) (sym c.in-Some.is ∙ c.in_ok-x.ensures.value) put
    (subst (λ z. unsigned_abs z ≤ 9223372036854775808 * (c.parts.part-index + 1)) (sym put)
    (bound_more c.parts.sum.value c.in-Some.x c.parts.part-index c.part-item.result.0 c.parts.invariant.bound small)) c.parts.invariant

pub values-number-requires : goal.values-number-requires
values-number-requires t c = (
  omega (arith, weight-trees c.args.parts.now c.parts.part-index c.part-item.result c.parts-test.true, ap weight c.part-item.is),
  (c.requires.played, valued_holds _ _ _ _ c.part-item.result _ (drop_next c.args.parts.now c.parts.part-index c.part-item.result c.parts-test.true c.part-item.is) c.parts.invariant),
)

pub values-parts-preserved : goal.values-parts-preserved
values-parts-preserved t c =
    let put : c.add.new.numbers.items ≡ c.parts.found.items ++ c.in-Some.x ∷ [] = search rules in
    valued_more _ _ _ _ c.part-item.result _ (drop_next c.args.parts.now c.parts.part-index c.part-item.result c.parts-test.true c.part-item.is) c.in-Some.x c.add.new.numbers.items (sym c.in-Some.is ∙ c.in_ok-x.ensures.value) put c.parts.invariant
