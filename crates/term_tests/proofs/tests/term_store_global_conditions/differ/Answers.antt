use Rattle.std.proofs.Common.{◌≡◌, true, length, rules, sym, ◌∙◌}
use Rattle.term_store.specs.Stores.{all}
use Rattle.term_tests.proofs.Present.{all_below}
use Rattle.term_tests.proofs.tests.term_store_global_conditions.differ.Goals as goal

pub add_cond-requires-clause-may : goal.add_cond-requires-clause-may
add_cond-requires-clause-may c =
    let there : c.are_below.result ≡ true = search rules in
    all_below c.count-count.result (length (all c.args.store.now)) c.args.terms.now c.count-count.ensures.count (sym c.are_below.ensures ∙ there)
