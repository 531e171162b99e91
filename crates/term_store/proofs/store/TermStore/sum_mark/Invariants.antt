use Rattle.std.proofs.Common.{◌≡◌, drop}
use Rattle.term_language.specs.Rules as rule
use Rattle.term_nodes.specs.Things.{parts_at}
use Rattle.term_store.specs.Stores.{all, root_of}
use Rattle.term_store.proofs.store.TermStore.sum_mark.Given as goal

abbrev pub invariant-loop-i : goal.invariant-loop-i
invariant-loop-i l = l.mark ≡ rule.sum_mark rule.Near (root_of l.self) (root_of l.self) (parts_at (all l.self) (drop l.i l.parts))
