use Rattle.prop_linear.proofs.Summing.{fixed_open}
use Rattle.prop_linear.proofs.balances.Balance.step_at.Goals as goal

pub returns-in_default-clause-none : goal.returns-in_default-clause-none
returns-in_default-clause-none c =
    fixed_open c.args.self.now.difference c.args.part.now.cell c.requires.whole c.in_default.ensures.none
