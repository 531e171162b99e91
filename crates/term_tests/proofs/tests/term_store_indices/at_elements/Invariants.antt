use Rattle.term_store.specs.Stores.{IsSoundStore}
use Rattle.term_tests.proofs.tests.term_store_indices.at_elements.Given as goal

abbrev pub invariant-loop-word : goal.invariant-loop-word
invariant-loop-word l = IsSoundStore l.store
