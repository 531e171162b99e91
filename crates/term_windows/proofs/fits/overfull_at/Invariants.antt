use Rattle.std.proofs.Common.{drop}
use Rattle.term_language.specs.Globals.{least_asked}
use Rattle.term_windows.specs.Tasks.{task_spans}
use Rattle.term_windows.proofs.Fitting.{HasRoom}
use Rattle.term_windows.proofs.fits.overfull_at.Given as goal

abbrev pub invariant-tasks : goal.invariant-tasks
invariant-tasks l = HasRoom (least_asked l.time.number) l.capacity.high l.room.number (task_spans (drop l.task-index l.tasks)) (task_spans l.tasks)
