use Rattle.std.proofs.Common.{ap, subst, sym, ◌∙◌}
use Rattle.term_language.specs.Arrays.{item_at}
use Rattle.term_language.specs.Laws.{IsTable}
use Rattle.term_language.specs.Terms.{Table}
use Rattle.term_math.specs.Kept.{table_of}
use Rattle.term_nodes.specs.Things.{no_table}
use Rattle.term_nodes.proofs.Ready.{table_proper}
use Rattle.term_store.specs.Stores.{root_of}
use Rattle.term_store.proofs.Indexing.{seen_table}
use Rattle.term_store.proofs.store.TermStore.element_at.Goals as goal

pub known-requires : goal.known-requires
known-requires c =
    let store = c.args.self.now in
    let is = seen_table (root_of store) store.items.items c.as_slice.result.now c.args.table (table_of c.in-Some.found.now) c.as_slice.ensures.value c.requires.sound.built c.in-Some.ensures.some in
    record { table = subst IsTable (sym is) (table_proper (root_of store) store.items.items c.args.table c.requires.sound.built) }

pub returns-in-Some : goal.returns-in-Some
returns-in-Some c =
    let store = c.args.self.now in
    c.known.ensures
    ∙ ap (λ (t : Table). item_at t c.args.index.now) (seen_table (root_of store) store.items.items c.as_slice.result.now c.args.table (table_of c.in-Some.found.now) c.as_slice.ensures.value
    c.requires.sound.built c.in-Some.ensures.some)

pub returns-in-None : goal.returns-in-None
returns-in-None c =
    let store = c.args.self.now in
    ap (λ (t : Table). item_at t c.args.index.now) (seen_table (root_of store) store.items.items c.as_slice.result.now c.args.table no_table c.as_slice.ensures.value c.requires.sound.built
    c.in-None.ensures.none)
