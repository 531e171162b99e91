use Rattle.std.proofs.Common.{ap, subst, sym}
use Rattle.term_nodes.specs.Things.{table_in, thing_of}
use Rattle.term_store.specs.Stores.{IsAdded, all}
use Rattle.term_store.proofs.Added.{below_items, term_added}
use Rattle.term_store.proofs.store.TermStore.add_term.Goals as goal

pub add_node-requires-clause-below : goal.add_node-requires-clause-below
add_node-requires-clause-below c = below_items c.args.self.now.items.items c.in_ok-node.node c.in_ok-node.ensures.node.below

pub add_node-requires-clause-table : goal.add_node-requires-clause-table
add_node-requires-clause-table c = ap table_in c.in_ok-node.ensures.node.is

pub returns-clause-adds : goal.returns-clause-adds
returns-clause-adds c =
    term_added _ _ _ _ _ _ c.in_ok-node.ensures.node.is (subst (λ ts. IsAdded (all c.args.self.now) ts c.in_ok-id.id (thing_of (all c.args.self.now) c.in_ok-node.node)) (sym c.remember.ensures.same) c.in_ok-id.ensures.added)
    c.in_ok-id.ensures.measured
