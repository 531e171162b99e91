use Rattle.std.proofs.Common.{◌≡◌, drop}
use Rattle.term_crowds.specs.Crowds.{some_negative}
use Rattle.term_windows.specs.Tasks.{task_spans}
use Rattle.term_windows.proofs.fits.some_negative.Given as goal

abbrev pub invariant-tasks : goal.invariant-tasks
invariant-tasks l = some_negative (task_spans (drop l.task-index l.tasks)) ≡ some_negative (task_spans l.tasks)
