use Rattle.std.proofs.Common.{ap}
use Rattle.term_math.specs.Shown.{ends_of}
use Rattle.term_nodes.specs.Seen.{Sight}
use Rattle.term_store.specs.Stores.{root_of}
use Rattle.term_store.proofs.Folding.{wide_small}
use Rattle.term_store.proofs.store.TermStore.made_known.Goals as goal

pub made-requires-clause-small : goal.made-requires-clause-small
made-requires-clause-small c =
    wide_small (root_of c.args.self.now) c.args.self.now.items.items c.args.id (ends_of c.range_known-range.result.ends) c.requires.sound.built (ap (λ (s : Sight). s.ends) c.range_known-range.ensures)
