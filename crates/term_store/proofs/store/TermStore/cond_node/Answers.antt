use Rattle.std.proofs.Common.{length, subst}
use Rattle.term_store.specs.Additions.{MayAddCond}
use Rattle.term_store.specs.Stores.{all}
use Rattle.term_store.proofs.Adding.{is_there}
use Rattle.term_store.proofs.store.TermStore.cond_node.Goals as goal

pub difference-requires-clause-left : goal.difference-requires-clause-left
difference-requires-clause-left c =
    is_there c.args.self.now.items.items c.in-Compare.a.0 (subst (MayAddCond (length (all c.args.self.now))) c.in-Compare.is c.requires.may).0

pub difference-requires-clause-right : goal.difference-requires-clause-right
difference-requires-clause-right c =
    is_there c.args.self.now.items.items c.in-Compare.b.0 (subst (MayAddCond (length (all c.args.self.now))) c.in-Compare.is c.requires.may).1
