use Rattle.std.proofs.Common.{◌≡◌, drop}
use Rattle.term_language.specs.Marks.{both, all_marks}
use Rattle.term_language.specs.Rules.{Near, marks}
use Rattle.term_nodes.specs.Things.{terms_at}
use Rattle.term_store.specs.Stores.{all, root_of}
use Rattle.term_store.proofs.store.TermStore.near_marks.Given as goal

abbrev pub invariant-loop-id : goal.invariant-loop-id
invariant-loop-id l =
    both l.mark (all_marks (marks Near (root_of l.self) (root_of l.self) (terms_at (all l.self) (drop l.id-index l.at))))
    ≡ all_marks (marks Near (root_of l.self) (root_of l.self) (terms_at (all l.self) l.at))
