use Rattle.std.proofs.Common.{rules, ◌≡◌, length, vec_len, sym, ◌∙◌}
use Rattle.term_nodes.proofs.Reading.{length_things}
use Rattle.term_store.proofs.store.TermStore.count.Goals as goal

pub returns : goal.returns
returns c =
    let here : vec_len c.args.self.now.items ≡ length c.args.self.now.items.items = search rules in
    record { count = c.len.ensures ∙ here ∙ sym (length_things c.args.self.now.items.items) }
