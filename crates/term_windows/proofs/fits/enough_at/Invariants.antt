use Rattle.std.proofs.Common.{drop}
use Rattle.term_windows.specs.Tasks.{task_spans}
use Rattle.term_windows.proofs.TaskSlices.{HasMost}
use Rattle.term_windows.proofs.fits.enough_at.Given as goal

abbrev pub invariant-tasks : goal.invariant-tasks
invariant-tasks l = HasMost l.capacity.low l.time.number l.room.number (task_spans (drop l.task-index l.tasks)) (task_spans l.tasks)
