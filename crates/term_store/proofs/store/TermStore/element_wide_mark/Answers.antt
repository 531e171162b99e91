use Rattle.std.proofs.Common.{◌∙◌, ℕ, arith, ap, length, subst, sym}
use Rattle.term_language.specs.Rules.{mark}
use Rattle.term_language.specs.Terms.{Element}
use Rattle.term_nodes.specs.Built.{AllBelow}
use Rattle.term_nodes.specs.Seen.{Sight}
use Rattle.term_nodes.specs.Things.{table_at, terms_at, things}
use Rattle.term_store.specs.Stores.{root_of}
use Rattle.term_store.proofs.WideReading.{read_as}
use Rattle.term_store.proofs.store.TermStore.element_wide_mark.Goals as goal

pub element_range-requires-clause-exists : goal.element_range-requires-clause-exists
element_range-requires-clause-exists c = omega (arith, c.nodes.ensures, ap length c.wide.ensures.items)

pub element_range-requires-clause-below : goal.element_range-requires-clause-below
element_range-requires-clause-below c = subst (λ (n : ℕ). AllBelow n c.args.at.now) (sym c.nodes.ensures) c.requires.exist

pub returns : goal.returns
returns c =
    ap (λ (s : Sight). s.mark) c.element_range.ensures
    ∙ read_as (λ r root b items. mark r root b (Element (table_at (things items) c.args.table) (terms_at (things items) c.args.at.now))) c.wide.result (root_of c.args.self.now) c.args.self.now.items.items c.wide.ensures.reading c.wide.ensures.root c.wide.ensures.view c.wide.ensures.items
