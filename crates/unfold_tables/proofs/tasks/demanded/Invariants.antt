use Rattle.std.proofs.Common.{◌≡◌, ◌+ℤ◌, ◌*◌, ◌≤◌, drop, map, unsigned_abs}
use Rattle.sopl_ast.specs.Numbers.{demanded}
use Rattle.unfold_tables.specs.Tables.{task_in}
use Rattle.unfold_tables.proofs.tasks.demanded.Given as goal

abbrev pub invariant-tasks : goal.invariant-tasks
invariant-tasks l = record {
  value : l.total.value +ℤ demanded l.time (map task_in (drop l.task-index l.tasks)) ≡ demanded l.time (map task_in l.tasks);
  bound : unsigned_abs l.total.value ≤ 9223372036854775808 * l.task-index;
}
