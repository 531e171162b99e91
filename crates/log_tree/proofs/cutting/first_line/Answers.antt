use Rattle.log_tree.proofs.FirstLines.{cut_at}
use Rattle.log_tree.proofs.cutting.first_line.Goals as goal

pub returns-then-bytes-i-eq10-clause-cut : goal.returns-then-bytes-i-eq10-clause-cut
returns-then-bytes-i-eq10-clause-cut c =
    cut_at c.args.bytes.now c.without_return.result.now c.bytes.i c.bytes-test.true c.if-bytes-i-eq10.true c.bytes.invariant c.without_return.ensures
