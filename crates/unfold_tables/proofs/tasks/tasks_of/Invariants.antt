use Rattle.std.proofs.Common.{◌≡◌, ◌++◌, length, map}
use Rattle.unfold_tables.specs.Tables.{tasks_of}
use Rattle.unfold_tables.specs.Tables.{task_in}
use Rattle.unfold_tables.proofs.tasks.tasks_of.Given as goal

abbrev pub invariant-tasks : goal.invariant-tasks
invariant-tasks l = map task_in l.tasks.items ++ tasks_of l.left ≡ tasks_of l.numbers

abbrev pub decreases-tasks : goal.decreases-tasks
decreases-tasks l = length l.left
