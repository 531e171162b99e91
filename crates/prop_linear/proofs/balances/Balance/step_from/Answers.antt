use Rattle.prop_linear.proofs.Summing.{step_removes}
use Rattle.prop_linear.proofs.balances.Balance.step_from.Goals as goal

pub returns-in-Some-clause-removes : goal.returns-in-Some-clause-removes
returns-in-Some-clause-removes c =
    step_removes c.args.self.now.difference c.args.turn.now c.in-Some.removal c.args.reason c.step.result c.requires.turn c.in-Some.ensures.removal c.step.ensures
