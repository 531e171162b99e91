use Rattle.std.proofs.Common.{rules, ◌≡◌, length, subst, sym}
use Rattle.term_nodes.specs.Built.{AllBelow}
use Rattle.term_store.proofs.Adding.{all_there}
use Rattle.term_goals.proofs.goal.Goal.ends.Goals as goal

pub worst-found-requires-clause-exist : goal.worst-found-requires-clause-exist
worst-found-requires-clause-exist c =
    let same : c.as_slice.result.now ≡ c.args.self.now.terms.items = search rules in
    subst (AllBelow (length c.args.here.now.items.now)) (sym same) (all_there c.args.here.now.items.now c.args.self.now.terms.items c.requires.sound.exist)
