use Rattle.std.proofs.Common.{◌∙◌, ℕ, arith, ap, length, subst, sym}
use Rattle.term_nodes.specs.Built.{AllBelow}
use Rattle.term_nodes.specs.Seen.{extreme_range}
use Rattle.term_nodes.specs.Things.{term_at, terms_at, things}
use Rattle.term_store.specs.Stores.{root_of}
use Rattle.term_store.proofs.WideReading.{read_as}
use Rattle.term_store.proofs.store.TermStore.extreme_known.Goals as goal

pub extreme_range-requires-clause-exists : goal.extreme_range-requires-clause-exists
extreme_range-requires-clause-exists c = omega (arith, c.nodes.ensures, ap length c.wide.ensures.items)

pub extreme_range-requires-clause-first : goal.extreme_range-requires-clause-first
extreme_range-requires-clause-first c = omega (arith, c.requires.first, c.nodes.ensures)

pub extreme_range-requires-clause-below : goal.extreme_range-requires-clause-below
extreme_range-requires-clause-below c = subst (λ (n : ℕ). AllBelow n c.args.later.now) (sym c.nodes.ensures) c.requires.exist

pub returns : goal.returns
returns c =
    c.extreme_range.ensures
    ∙ read_as (λ r root b items. extreme_range r root b c.args.extreme (term_at (things items) c.args.first) (terms_at (things items) c.args.later.now)) c.wide.result (root_of c.args.self.now) c.args.self.now.items.items c.wide.ensures.reading c.wide.ensures.root c.wide.ensures.view c.wide.ensures.items
