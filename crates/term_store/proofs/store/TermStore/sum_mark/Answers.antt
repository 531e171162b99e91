use Rattle.std.proofs.Common.{false, length}
use Rattle.term_nodes.specs.declared.nodes.Signed.{Signed}
use Rattle.term_nodes.proofs.Steps.{part_back}
use Rattle.term_store.proofs.store.TermStore.sum_mark.Goals as goal

pub mark_known-here-requires-clause-exists : goal.mark_known-here-requires-clause-exists
mark_known-here-requires-clause-exists c =
    let none : Signed = record { subtracted = false; term = 0 } in
    part_back (length c.args.self.now.items.items) c.args.parts.now c.loop-i.i none c.requires.exist c.loop-i-test.true c.loop-i.auto.i
