use Rattle.std.proofs.Common.{sym, ap, subst, ◌∙◌, pos, length}
use Rattle.std.proofs.lemmas.List.FromFn.{length-map-range_with_len}
use Rattle.policy_eval.specs.Tried.{FitOn, scenario_count}
use Rattle.policy_eval.proofs.Trials.{truths_fit}
use Rattle.policy_eval.proofs.trial.Trial.weight_of.Goals as goal

pub weighted-requires-clause-many : goal.weighted-requires-clause-many
weighted-requires-clause-many c = ap length (c.as_slice.ensures.value ∙ c.in_ok-truths.ensures.truths) ∙ length-map-range_with_len _ 0 (scenario_count c.args.self.now)

pub weighted-requires-clause-fits : goal.weighted-requires-clause-fits
weighted-requires-clause-fits c =
    subst (FitOn (pos 0) c.args.self.now.tree.now.weights) (sym (c.as_slice.ensures.value ∙ c.in_ok-truths.ensures.truths)) (truths_fit c.args.self.now c.requires.tried _)
