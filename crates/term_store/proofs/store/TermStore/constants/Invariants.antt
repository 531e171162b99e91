use Rattle.std.proofs.Common.{◌≡◌, ◌++◌, drop}
use Rattle.term_nodes.specs.Things.{terms_at}
use Rattle.term_store.proofs.Indexing.{numbers}
use Rattle.term_store.specs.Stores.{all, root_of}
use Rattle.term_store.proofs.store.TermStore.constants.Given as goal

abbrev pub invariant-loop-id : goal.invariant-loop-id
invariant-loop-id l =
    l.list.items ++ numbers (root_of l.self) (terms_at (all l.self) (drop l.id-index l.ids)) ≡ numbers (root_of l.self) (terms_at (all l.self) l.ids)
