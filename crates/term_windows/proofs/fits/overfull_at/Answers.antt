use Rattle.std.proofs.Common.{arith, sym}
use Rattle.std.proofs.lemmas.Int.{ints}
use Rattle.term_math.specs.Shown.{ends_of}
use Rattle.term_windows.proofs.TaskSlices.{is_there, next_room, no_room, task_at}
use Rattle.term_windows.proofs.fits.overfull_at.Goals as goal

pub returns-then-room-asked : goal.returns-then-room-asked
returns-then-room-asked c =
    let ts = c.args.tasks.now in
    let i = c.tasks.task-index in
    sym (no_room (ends_of c.args.capacity.now) c.args.time.now.number c.tasks.room.number c.least_asked-asked.result.number ts i (task_at ts i) c.tasks-test.true (is_there ts i c.tasks-test.true)
    c.least_asked-asked.ensures (omega (arith, ints, c.if-room-asked.true)) c.tasks.invariant)

pub tasks-preserved : goal.tasks-preserved
tasks-preserved c =
    let ts = c.args.tasks.now in
    let i = c.tasks.task-index in
    next_room c.args.capacity.now.high c.args.time.now.number c.tasks.room.number c.without-room.result.number c.least_asked-asked.result.number ts i (task_at ts i) c.tasks-test.true
    (is_there ts i c.tasks-test.true) c.least_asked-asked.ensures (omega (arith, ints, c.if-room-asked.false)) c.without-room.ensures c.tasks.invariant
