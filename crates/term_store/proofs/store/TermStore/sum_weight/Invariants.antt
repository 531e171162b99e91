use Rattle.std.proofs.Common.{◌≡◌, drop}
use Rattle.term_language.specs.Sizes as sizes
use Rattle.term_nodes.specs.Things.{parts_at}
use Rattle.term_store.specs.Stores.{all, root_of}
use Rattle.term_store.proofs.store.TermStore.sum_weight.Given as goal

abbrev pub invariant-loop-i : goal.invariant-loop-i
invariant-loop-i l = l.sum ≡ sizes.sum_weight (root_of l.self) (parts_at (all l.self) (drop l.i l.parts))
