use Rattle.std.proofs.Common.{◌≡◌, length, take}
use Rattle.term_windows.specs.Tasks.{task_spans}
use Rattle.term_windows.specs.Windows.{spans}
use Rattle.prop_cumul.specs.Profiles.{tasks_in}
use Rattle.prop_cumul.proofs.profile.Profile.fill.Given as goal

abbrev pub invariant-tasks : goal.invariant-tasks
invariant-tasks l = record {
  filled : task_spans (take l.place l.self.tasks.items) ≡ take l.place (tasks_in (spans l.ends));
  same : length l.self.tasks.items ≡ length l.fn.self.tasks.items;
}
