use Rattle.std.proofs.Common.{◌≡◌, drop}
use Rattle.std.specs.List.{list_all}
use Rattle.unfold_tables.proofs.Sweeping.{fit}
use Rattle.unfold_tables.proofs.levels.all_fit_levels.Given as goal

abbrev pub invariant-tasks : goal.invariant-tasks
invariant-tasks l = list_all (fit l.tasks l.capacity.value) (drop l.task-index l.tasks) ≡ list_all (fit l.tasks l.capacity.value) l.tasks
