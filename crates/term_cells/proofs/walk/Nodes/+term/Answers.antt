use Rattle.std.proofs.Common.{arith, ℕ, ◌<◌, false, get_or}
use Rattle.std.proofs.lemmas.List.{get_or_default}
use Rattle.term_nodes.specs.declared.nodes.Signed.{Signed}
use Rattle.term_nodes.specs.declared.nodes.Task.{Task}
use Rattle.term_nodes.proofs.Steps.{cond_below, part_below}
use Rattle.term_nodes.proofs.Tasking.{task_below}
use Rattle.term_cells.proofs.walk.Nodes.+term.Goals as goal

pub conds-cond-requires : goal.conds-cond-requires
conds-cond-requires t c =
    let id : ℕ = get_or c.args.ids.now c.ids.id-index 0 in
    let there : id < c.args.limit = cond_below c.args.limit c.args.ids.now c.ids.id-index id c.requires.below c.ids-test.true (get_or_default c.args.ids.now c.ids.id-index 0 id c.ids-test.true) in
    (omega (arith, there), c.requires.built)

pub terms-term-requires : goal.terms-term-requires
terms-term-requires t c =
    let id : ℕ = get_or c.args.ids.now c.ids.id-index 0 in
    let there : id < c.args.limit = cond_below c.args.limit c.args.ids.now c.ids.id-index id c.requires.below c.ids-test.true (get_or_default c.args.ids.now c.ids.id-index 0 id c.ids-test.true) in
    (omega (arith, there), c.requires.built)

pub parts-term-requires : goal.parts-term-requires
parts-term-requires t c =
    let none : Signed = record { subtracted = false; term = 0 } in
    let x : Signed = get_or c.args.parts.now c.parts.part-index none in
    let there : x.term < c.args.limit = part_below c.args.limit c.args.parts.now c.parts.part-index x c.requires.below c.parts-test.true
    (get_or_default c.args.parts.now c.parts.part-index none x c.parts-test.true) in
    (omega (arith, there), c.requires.built)

pub tasks-task-requires : goal.tasks-task-requires
tasks-task-requires t c =
    let none : Task = record { start = 0; duration = 0; demand = 0 } in
    let x : Task = get_or c.args.tasks.now c.tasks.task-index none in
    let there = task_below c.args.limit c.args.tasks.now c.tasks.task-index x c.requires.below c.tasks-test.true
    (get_or_default c.args.tasks.now c.tasks.task-index none x c.tasks-test.true) in
    (omega arith, (c.requires.built, there))
