use Rattle.std.proofs.Common.{arith}
use Rattle.policy_read.proofs.Placing.{lows_all, lows_more}
use Rattle.policy_read.proofs.policy.lows.Goals as goal

pub domains-preserved : goal.domains-preserved
domains-preserved c =
    lows_more c.args.domains.now c.domains.i c.domains.found.items c.index-domains-i.result c.add_low.new.found.items c.domains-test.true c.index-domains-i.is
    c.in_ok-add_low.ensures c.domains.invariant

pub returns : goal.returns
returns c = lows_all c.args.domains.now c.domains.i c.domains.found.items (omega arith) c.domains.invariant
