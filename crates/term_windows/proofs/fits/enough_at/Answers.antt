use Rattle.std.proofs.Common.{arith, sym}
use Rattle.std.proofs.lemmas.Int.{ints}
use Rattle.term_math.specs.Shown.{ends_of}
use Rattle.term_windows.specs.Tasks.{task_spans}
use Rattle.term_windows.proofs.TaskSlices.{first_most, is_there, most_asked_nonneg, next_most, no_most, task_at}
use Rattle.term_windows.proofs.fits.enough_at.Goals as goal

pub tasks-init : goal.tasks-init
tasks-init c =
    first_most c.args.capacity.now.low c.args.time.now.number c.lower-room.result.number (task_spans c.args.tasks.now) c.lower-room.ensures c.requires.room c.requires.ordered c.requires.sound

pub returns-then-room-asked : goal.returns-then-room-asked
returns-then-room-asked c =
    let ts = c.args.tasks.now in
    let i = c.tasks.task-index in
    sym (no_most (ends_of c.args.capacity.now) c.args.time.now.number c.tasks.room.number c.most_asked-asked.result.number ts i (task_at ts i) c.tasks-test.true (is_there ts i c.tasks-test.true)
    c.most_asked-asked.ensures (omega (arith, ints, c.if-room-asked.true)) c.tasks.invariant)

pub without-room-requires-clause-some : goal.without-room-requires-clause-some
without-room-requires-clause-some c =
    let ts = c.args.tasks.now in
    let i = c.tasks.task-index in
    most_asked_nonneg c.args.capacity.now.low c.args.time.now.number c.tasks.room.number c.most_asked-asked.result.number ts i (task_at ts i) c.tasks-test.true (is_there ts i c.tasks-test.true)
    c.most_asked-asked.ensures c.tasks.invariant

pub tasks-preserved : goal.tasks-preserved
tasks-preserved c =
    let ts = c.args.tasks.now in
    let i = c.tasks.task-index in
    next_most c.args.capacity.now.low c.args.time.now.number c.tasks.room.number c.without-room.result.number c.most_asked-asked.result.number ts i (task_at ts i) c.tasks-test.true
    (is_there ts i c.tasks-test.true) c.most_asked-asked.ensures (omega (arith, ints, c.if-room-asked.false)) c.without-room.ensures c.tasks.invariant
