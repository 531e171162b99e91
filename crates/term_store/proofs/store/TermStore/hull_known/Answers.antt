use Rattle.std.proofs.Common.{map, ap, ◌∙◌}
use Rattle.box_problem.specs.Box.{Box}
use Rattle.term_language.specs.Ends.{hull_of}
use Rattle.term_language.specs.Rules.{item_ends}
use Rattle.term_math.specs.Shown.{ends_of}
use Rattle.term_math.specs.Kept.{items_of, table_of}
use Rattle.term_nodes.specs.Things.{no_table, table_at, things}
use Rattle.term_store.proofs.Indexing.{hull_found, hull_missing, seen_table}
use Rattle.term_store.specs.Stores.{root_of}
use Rattle.term_store.proofs.store.TermStore.hull_known.Goals as goal

pub returns-in-Some : goal.returns-in-Some
returns-in-Some c =
    let store = c.args.self.now in
    hull_found (root_of store) c.in-Some.found.now (table_at (things store.items.items) c.args.table) (ends_of c.hull.result)
    (seen_table (root_of store) store.items.items c.as_slice.result.now c.args.table (table_of c.in-Some.found.now) c.as_slice.ensures.value c.requires.sound.built c.in-Some.ensures.some)
    (c.hull.ensures ∙ ap (λ (b : Box). hull_of (map (item_ends b) (items_of c.in-Some.found.now.elements.items))) c.root.ensures.root)

pub returns-in-None : goal.returns-in-None
returns-in-None c =
    let store = c.args.self.now in
    hull_missing (root_of store) (table_at (things store.items.items) c.args.table) (ends_of c.zero.result)
    (seen_table (root_of store) store.items.items c.as_slice.result.now c.args.table no_table c.as_slice.ensures.value c.requires.sound.built c.in-None.ensures.none) c.zero.ensures
