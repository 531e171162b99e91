use Rattle.std.proofs.Common.{length}
use Rattle.term_nodes.proofs.Steps.{cond_back}
use Rattle.term_goals.proofs.sizes.greatest_size.Goals as goal

pub size_at-requires-clause-exists : goal.size_at-requires-clause-exists
size_at-requires-clause-exists c =
    cond_back (length c.args.here.now.items.now) c.args.terms.now c.loop-i.i 0 c.requires.exist c.loop-i-test.true c.loop-i.auto.i
