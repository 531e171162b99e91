use Rattle.std.proofs.Common.{◌∙◌, ◌*ℤ◌, int_le}
use Rattle.policy_eval.proofs.trial.Trial.is_reached.Goals as goal

pub returns : goal.returns
returns c =
    record {
      reached = c.is_enough.ensures ∙ (λ i. int_le (c.level_of.ensures.p i *ℤ c.whole.ensures.whole i) (c.level_of.ensures.q i *ℤ c.args.sum.value));
    }
