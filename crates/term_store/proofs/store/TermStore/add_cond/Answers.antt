use Rattle.std.proofs.Common.{ap}
use Rattle.term_nodes.specs.Things.{table_in}
use Rattle.term_store.proofs.Added.{below_items}
use Rattle.term_store.proofs.store.TermStore.add_cond.Goals as goal

pub add_node-requires-clause-below : goal.add_node-requires-clause-below
add_node-requires-clause-below c = below_items c.args.self.now.items.items c.in_ok-node.node c.in_ok-node.ensures.node.below

pub add_node-requires-clause-table : goal.add_node-requires-clause-table
add_node-requires-clause-table c = ap table_in c.in_ok-node.ensures.node.is
