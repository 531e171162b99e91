use Rattle.std.proofs.Common.{sym, ◌∙◌}
use Rattle.term_nodes.proofs.Reading.{length_things}
use Rattle.term_store.proofs.store.TermStore.add.Goals as goal

pub returns-clause-added : goal.returns-clause-added
returns-clause-added c = record {
  number = c.in_ok-id.ensures.id ∙ sym (length_things c.args.self.now.items.items);
  added = c.in_ok-id.ensures.things;
}
