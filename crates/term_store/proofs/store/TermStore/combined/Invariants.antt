use Rattle.std.proofs.Common.{◌≡◌, drop}
use Rattle.term_language.specs.Rules.{sum_form}
use Rattle.term_math.specs.Sums.{combination_of}
use Rattle.term_nodes.specs.Things.{parts_at}
use Rattle.term_store.specs.Stores.{all, root_of}
use Rattle.term_store.proofs.store.TermStore.combined.Given as goal

abbrev pub invariant-loop-i : goal.invariant-loop-i
invariant-loop-i l = combination_of l.sum ≡ sum_form (root_of l.self) (parts_at (all l.self) (drop l.i l.parts))
