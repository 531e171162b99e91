use Rattle.term_store.specs.Stores.{IsSoundStore}
use Rattle.term_tests.proofs.tests.term_store_global_conditions.differ_otherwise.Given as goal

abbrev pub invariant-loop-word : goal.invariant-loop-word
invariant-loop-word l = IsSoundStore l.store
