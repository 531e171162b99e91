use Rattle.std.proofs.Common.{[], arith}
use Rattle.prop_linear.proofs.Renewing.{parts_all}
use Rattle.prop_linear.proofs.kept_sum.KeptSum.sum_up.Goals as goal

pub returns-clause-sums : goal.returns-clause-sums
returns-clause-sums c =
    parts_all c.args.difference.now [] c.parts.place c.parts.self (omega (arith, c.parts-test.false)) c.parts.invariant.places c.parts.invariant.whole c.parts.invariant.seen
