use Rattle.std.proofs.Common.{arith}
use Rattle.policy_read.proofs.Placing.{placed_all, placed_more}
use Rattle.policy_read.proofs.policy.put_all.Goals as goal

pub values-preserved : goal.values-preserved
values-preserved c =
    placed_more c.args.told.now c.values.i c.args.values.now.items c.values.values.items _ c.put.new.values.items c.values-test.true c.put.ensures c.values.invariant

pub returns : goal.returns
returns c = placed_all c.args.told.now c.values.i c.args.values.now.items c.values.values.items (omega arith) c.values.invariant
