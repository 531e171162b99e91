use Rattle.std.proofs.Common.{◌∙◌, ap, length}
use Rattle.policy_read.proofs.Placing.{numbers_long}
use Rattle.policy_read.proofs.policy.form_for.Goals as goal

pub policy_value-requires-clause-values : goal.policy_value-requires-clause-values
policy_value-requires-clause-values c = ap length (c.deref.ensures.value ∙ c.in_ok-numbers.ensures) ∙ numbers_long c.cells.result ∙ c.cells.ensures
