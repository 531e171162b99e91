use Rattle.term_store.specs.Stores.{IsSoundStore}
use Rattle.term_tests.proofs.tests.term_store_global_conditions.add_terms.Given as goal

abbrev pub invariant-loop-cell : goal.invariant-loop-cell
invariant-loop-cell l = IsSoundStore l.store
