use Rattle.std.proofs.Common.{rules, ◌≡◌, ap, ◌∙◌, [], ◌∷◌, ◌++◌}
use Rattle.sopl_ast.specs.Meanings.{meaning}
use Rattle.sopl_ast.specs.Numbers.{one_or_zero}
use Rattle.unfold_constants.specs.Here.{known_in}
use Rattle.policy_values.specs.Played.{place_of}
use Rattle.policy_eval.proofs.TrialSteps.{one_listed}
use Rattle.policy_eval.proofs.trial.Trial.truths.Goals as goal

pub scenarios-preserved : goal.scenarios-preserved
scenarios-preserved c =
    let put : c.add.new.numbers.items ≡ c.scenarios.truths.items ++ c.one_or_zero.result ∷ [] = search rules in
    one_listed _ c.scenarios.scenario c.scenarios.truths.items c.add.new.numbers.items c.one_or_zero.result c.scenarios.invariant
    (c.one_or_zero.ensures ∙ ap one_or_zero (c.in_ok-holds.ensures.truth ∙ ap (λ p. (meaning (place_of p (known_in c.args.known.now)) c.args.condition.now).truth) c.at.ensures.played)) put
