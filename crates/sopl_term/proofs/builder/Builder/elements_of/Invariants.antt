use Rattle.std.proofs.Common.{◌≡◌, ◌++◌, map, drop}
use Rattle.term_math.specs.Kept.{items_of}
use Rattle.term_nodes.specs.Things.{thing_at}
use Rattle.term_store.specs.declared.ids.TermId.{TermId}
use Rattle.sopl_term.specs.Built.{built, item_of}
use Rattle.sopl_term.proofs.builder.Builder.elements_of.Given as goal

abbrev pub invariant-loop-id : goal.invariant-loop-id
invariant-loop-id l =
    items_of l.list.items ++ map (λ (id : TermId). item_of (thing_at (built l.self) id.0)) (drop l.id-index l.items) ≡ map (λ (id : TermId). item_of (thing_at (built l.self) id.0)) l.items
