use Rattle.std.proofs.Common.{◌≡◌, ◌<◌, true, length, rules, sym, ◌∙◌}
use Rattle.term_store.specs.Stores.{all}
use Rattle.term_tests.proofs.Present.{all_tasks_below}
use Rattle.term_tests.proofs.tests.term_store_global_conditions.fit.Goals as goal

pub add_cond-requires-clause-may : goal.add_cond-requires-clause-may
add_cond-requires-clause-may c =
    let there : c.are_tasks_below.result ≡ true = search rules in
    let capacity : c.args.capacity < length (all c.args.store.now) = search rules in
    (all_tasks_below c.count-count.result (length (all c.args.store.now)) c.args.tasks.now c.count-count.ensures.count (sym c.are_tasks_below.ensures ∙ there), capacity)
