use Rattle.std.proofs.Common.{arith}
use Rattle.prop_linear.proofs.Summing.{open_all, open_more}
use Rattle.prop_linear.proofs.balances.Balance.first_step.Goals as goal

pub parts-preserved : goal.parts-preserved
parts-preserved c =
    open_more c.args.self.now.difference c.parts.part-index _ c.parts.invariant c.parts-test.true c.in_default.ensures.none

pub returns-clause-none : goal.returns-clause-none
returns-clause-none c =
    open_all c.args.self.now.difference c.parts.part-index (omega (arith, c.parts-test.false)) c.parts.invariant
