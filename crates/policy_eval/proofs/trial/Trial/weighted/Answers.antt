use Rattle.std.proofs.Common.{arith, ◌≡◌, ap, ◌∙◌, pos, ◌+ℤ◌, ◌*ℤ◌, get_or}
use Rattle.policy_eval.proofs.TrialSteps.{weighed_more}
use Rattle.policy_eval.proofs.trial.Trial.weighted.Goals as goal

pub scenarios-preserved : goal.scenarios-preserved
scenarios-preserved c =
    let put : c.plus-sum.result.value ≡ c.scenarios.sum.value +ℤ (get_or c.args.self.now.tree.now.weights c.scenarios.scenario (pos 0) *ℤ c.number_at.result.value) =
    c.plus-sum.ensures.sum ∙ ap (λ z. c.scenarios.sum.value +ℤ z) (c.times-more.ensures.product ∙ ap (λ w. w *ℤ c.number_at.result.value) c.weight.ensures.weight) in
    weighed_more c.args.self.now.tree.now.weights c.args.numbers.now c.scenarios.sum.value c.scenarios.scenario c.number_at.result.value c.requires.many
    (omega (arith, c.scenarios-test.true, c.count-scenario-end.ensures, c.requires.many)) c.number_at.ensures.value c.plus-sum.result.value put c.scenarios.invariant
