use Rattle.std.proofs.Common.{◌≡◌, drop}
use Rattle.std.specs.List.{list_all}
use Rattle.term_language.specs.Forms.{is_constant}
use Rattle.term_language.specs.Rules.{forms}
use Rattle.term_nodes.specs.Things.{terms_at}
use Rattle.term_store.specs.Stores.{all, root_of}
use Rattle.term_store.proofs.store.TermStore.all_constant.Given as goal

abbrev pub invariant-loop-id : goal.invariant-loop-id
invariant-loop-id l =
    list_all is_constant (forms (root_of l.self) (terms_at (all l.self) (drop l.id-index l.ids)))
    ≡ list_all is_constant (forms (root_of l.self) (terms_at (all l.self) l.ids))
