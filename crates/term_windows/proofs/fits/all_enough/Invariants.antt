use Rattle.std.proofs.Common.{◌≡◌, drop}
use Rattle.term_math.specs.Shown.{ends_of}
use Rattle.term_windows.specs.Tasks.{all_enough, task_spans}
use Rattle.term_windows.proofs.fits.all_enough.Given as goal

abbrev pub invariant-tasks : goal.invariant-tasks
invariant-tasks l = all_enough (task_spans l.tasks) (ends_of l.capacity) (task_spans (drop l.task-index l.tasks)) ≡ all_enough (task_spans l.tasks) (ends_of l.capacity) (task_spans l.tasks)
