use Rattle.search_tests.proofs.Resting.{root_inside}
use Rattle.search_tests.proofs.prop_term_conditions.rest_of.Goals as goal

pub fixpoint-requires-clause-inside : goal.fixpoint-requires-clause-inside
fixpoint-requires-clause-inside c =
    root_inside c.args.program.now c.args.roots.now c.in_ok-store.store.box c.requires.root c.in_ok-store.ensures.root
