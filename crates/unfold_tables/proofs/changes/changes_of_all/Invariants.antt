use Rattle.std.proofs.Common.{◌≡◌, ℤ, ◌+ℤ◌, drop, map}
use Rattle.sopl_ast.specs.Numbers.{demanded}
use Rattle.unfold_tables.specs.Changing.{changes_in, level}
use Rattle.unfold_tables.specs.Tables.{task_in}
use Rattle.unfold_tables.proofs.changes.changes_of_all.Given as goal

abbrev pub invariant-tasks : goal.invariant-tasks
invariant-tasks l = (time : ℤ) → level time (changes_in l.changes.entries) +ℤ demanded time (map task_in (drop l.task-index l.tasks)) ≡ demanded time (map task_in l.tasks)
