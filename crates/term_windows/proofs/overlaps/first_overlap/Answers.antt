use Rattle.term_windows.specs.Windows.{spans}
use Rattle.term_windows.proofs.Overlapping.{interval_there, next_low, own_interval_at}
use Rattle.term_windows.proofs.overlaps.first_overlap.Goals as goal

pub loop-from-preserved : goal.loop-from-preserved
loop-from-preserved c =
    let es = c.args.ends.now in
    let i = c.loop-from.from-index in
    next_low (spans es) es i (own_interval_at es i) c.loop-from-test.true (interval_there es i c.loop-from-test.true) c.in_default.ensures.none c.loop-from.invariant
