use Rattle.term_store.specs.Stores.{root_of}
use Rattle.term_store.proofs.Added.{is_new, no_table_new}
use Rattle.term_store.proofs.store.TermStore.add_node.Goals as goal

pub add-requires-clause-new : goal.add-requires-clause-new
add-requires-clause-new c =
    is_new (root_of c.args.self.now) c.args.self.now.items.items c.requires.sound.built c.args.node c.in_ok-facts.facts c.requires.below c.requires.right
    (no_table_new _ c.requires.table) c.in_ok-facts.ensures.facts c.in_ok-facts.ensures.measured
