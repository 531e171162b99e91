use Rattle.std.proofs.Common.{ℕ, List, length, arith, ap, subst, sym, ◌∙◌}
use Rattle.term_nodes.specs.Built.{AllBelow}
use Rattle.box_problem.specs.Box.{Box}
use Rattle.term_language.specs.Rules.{Near, mark}
use Rattle.term_language.specs.Terms.{Element}
use Rattle.term_math.specs.Shown.{box_in}
use Rattle.term_nodes.specs.Seen.{Sight}
use Rattle.term_nodes.specs.Things.{Thing, table_at, terms_at, things}
use Rattle.term_nodes.proofs.Plain.{can_read, is_near}
use Rattle.term_store.specs.Stores.{root_of}
use Rattle.term_nodes.proofs.Reading.{length_things}
use Rattle.term_store.proofs.store.TermStore.element_mark.Goals as goal

pub element_range-requires-clause-exists : goal.element_range-requires-clause-exists
element_range-requires-clause-exists c =
    omega (arith, c.count.ensures.count, ap (λ (ts : List Thing). length ts) c.here.ensures.things, length_things c.here.result.items.now)

pub element_range-requires-clause-below : goal.element_range-requires-clause-below
element_range-requires-clause-below c =
    subst (λ (n : ℕ). AllBelow n c.args.at.now) (sym (c.count.ensures.count ∙ length_things c.args.self.now.items.items)) c.requires.exist

pub returns : goal.returns
returns c =
    ap (λ (s : Sight). s.mark) c.element_range.ensures
    ∙ ap (λ r. mark r (box_in c.here.result.root) (box_in c.here.result.view) (Element (table_at (things c.here.result.items.now) c.args.table) (terms_at (things c.here.result.items.now) c.args.at.now)))
    (is_near c.here.result c.here.ensures.ready.near)
    ∙ ap (λ (b : Box). mark Near b (box_in c.here.result.view) (Element (table_at (things c.here.result.items.now) c.args.table) (terms_at (things c.here.result.items.now) c.args.at.now))) c.here.ensures.root
    ∙ ap (λ (b : Box). mark Near (root_of c.args.self.now) b (Element (table_at (things c.here.result.items.now) c.args.table) (terms_at (things c.here.result.items.now) c.args.at.now)))
    (c.here.ensures.view ∙ c.root-root.ensures.root)
    ∙ ap (λ (ts : List Thing). mark Near (root_of c.args.self.now) (root_of c.args.self.now) (Element (table_at ts c.args.table) (terms_at ts c.args.at.now))) c.here.ensures.things

pub element_range-requires-clause-ready : goal.element_range-requires-clause-ready
element_range-requires-clause-ready c = can_read c.here.result c.here.ensures.ready
