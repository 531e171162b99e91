use Rattle.std.proofs.Common.{ap, ◌∙◌, ◌+◌, ◌+ℤ◌, pos, get_or, drop, map}
use Rattle.std.proofs.lemmas.List.{get_or_default}
use Rattle.sopl_ast.specs.Numbers.{demanded}
use Rattle.unfold_tables.specs.declared.tasks.TaskNumbers.{TaskNumbers}
use Rattle.unfold_tables.specs.Changing.{changes_in, level}
use Rattle.unfold_tables.specs.Tables.{task_in}
use Rattle.unfold_tables.proofs.Folds.{demand_more}
use Rattle.unfold_tables.proofs.changes.changes_of_all.Goals as goal

pub tasks-preserved : goal.tasks-preserved
tasks-preserved c =
    let none : TaskNumbers = record { start = pos 0; duration = pos 0; demand = pos 0 } in
    let tasks = c.args.tasks.now in
    let i = c.tasks.task-index in
    let task : TaskNumbers = get_or tasks i none in
    λ time.
    ap (λ z. z +ℤ demanded time (map task_in (drop (i + 1) tasks))) (c.in_ok-put_task.ensures c.if-not-branch.false time)
    ∙ demand_more time tasks i (level time (changes_in c.tasks.changes.entries)) task c.tasks-test.true (get_or_default tasks i none task c.tasks-test.true)
    ∙ c.tasks.invariant time
