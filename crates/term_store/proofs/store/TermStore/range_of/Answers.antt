use Rattle.std.proofs.Common.{arith, ap, length}
use Rattle.term_nodes.proofs.Reading.{length_things}
use Rattle.term_store.proofs.store.TermStore.range_of.Goals as goal

pub near_range-requires-clause-exists : goal.near_range-requires-clause-exists
near_range-requires-clause-exists c =
    omega (arith, c.requires.exists, ap length c.here.ensures.things, length_things c.here.result.items.now)
