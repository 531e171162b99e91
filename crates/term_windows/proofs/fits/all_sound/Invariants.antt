use Rattle.std.proofs.Common.{◌≡◌, drop}
use Rattle.term_crowds.specs.Crowds.{all_sound}
use Rattle.term_windows.specs.Tasks.{task_spans}
use Rattle.term_windows.proofs.fits.all_sound.Given as goal

abbrev pub invariant-tasks : goal.invariant-tasks
invariant-tasks l = all_sound (task_spans (drop l.task-index l.tasks)) ≡ all_sound (task_spans l.tasks)
