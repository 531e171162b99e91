use Rattle.term_windows.proofs.Overlapping.{interval_there, next_holds, own_interval_at}
use Rattle.term_windows.proofs.overlaps.place_in.Goals as goal

pub loop-place-preserved : goal.loop-place-preserved
loop-place-preserved c =
    let es = c.args.ends.now in
    let i = c.loop-place.place in
    next_holds c.args.window.now es i (own_interval_at es i) c.overlaps.result c.loop-place-test.true
    (interval_there es i c.loop-place-test.true) c.overlaps.ensures c.if-overlaps.false c.loop-place.invariant
