use Rattle.std.proofs.Common.{◌≡◌, ℕ, Option, IfOk, option_map, ap, subst, sym, ◌∙◌}
use Rattle.term_language.specs.Rules.{item_form}
use Rattle.term_math.specs.Shown.{ends_of}
use Rattle.term_math.specs.declared.elements.Element.{Element}
use Rattle.term_math.specs.Kept.{item_of}
use Rattle.term_nodes.specs.Built.{Facts, kept}
use Rattle.term_nodes.specs.Seen.{Sight, sight_of}
use Rattle.term_nodes.specs.Things.{table_at, terms_at}
use Rattle.term_nodes.proofs.Ready.{table_proper, terms_proper}
use Rattle.term_store.specs.Stores.{IsMeasured, all, root_of}
use Rattle.term_store.proofs.Indexing.{any_kept, any_sized}
use Rattle.term_store.proofs.KnownItems.{item_kept}
use Rattle.term_store.proofs.store.TermStore.element_facts.Goals as goal

pub returns-in-None-clause-facts : goal.returns-in-None-clause-facts
returns-in-None-clause-facts c =
    let store = c.args.self.now in
    let none = ap (λ (v : Option Element). item_form (option_map item_of v)) (sym c.in-None.is) ∙ c.in_ok-found.ensures in
    subst (λ (f : Facts). IfOk c.folded_facts.result (λ facts. kept facts ≡ f))
    (any_kept (root_of store) (table_at (all store) c.args.table) (terms_at (all store) c.args.at.now) (table_proper (root_of store) store.items.items c.args.table c.requires.sound.built)
    none c.element_mark-mark.result (sight_of c.element_wide-wide.result) c.element_mark-mark.ensures c.element_wide-wide.ensures)
    c.folded_facts.ensures.facts

pub returns-in-None-clause-measured : goal.returns-in-None-clause-measured
returns-in-None-clause-measured c =
    let store = c.args.self.now in
    let none = ap (λ (v : Option Element). item_form (option_map item_of v)) (sym c.in-None.is) ∙ c.in_ok-found.ensures in
    subst (λ (n : ℕ). IsMeasured n c.folded_facts.result)
    (any_sized (root_of store) (table_at (all store) c.args.table) (terms_at (all store) c.args.at.now) (table_proper (root_of store) store.items.items c.args.table c.requires.sound.built)
    none (ends_of c.element_wide-wide.result.ends) (ap (λ (s : Sight). s.ends) c.element_wide-wide.ensures))
    c.folded_facts.ensures.measured

pub returns-in-Some-clause-facts : goal.returns-in-Some-clause-facts
returns-in-Some-clause-facts c =
    let store = c.args.self.now in
    let known = ap (λ (v : Option Element). item_form (option_map item_of v)) (sym c.in-Some.is) ∙ c.in_ok-found.ensures in
    subst (λ (f : Facts). IfOk c.item_facts.result (λ facts. kept facts ≡ f))
    (item_kept (root_of store) (table_at (all store) c.args.table) (terms_at (all store) c.args.at.now) (item_of c.in-Some.element) c.requires.sound.root_is_box
    (terms_proper (root_of store) store.items.items c.args.at.now c.requires.sound.built) known c.near_marks-mark.result c.wide_marks-wide_mark.result c.near_marks-mark.ensures
    c.wide_marks-wide_mark.ensures)
    c.item_facts.ensures.facts
