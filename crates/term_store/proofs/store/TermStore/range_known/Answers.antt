use Rattle.std.proofs.Common.{◌∙◌, ◌<◌, List, length, subst, sym}
use Rattle.term_nodes.specs.Seen.{range}
use Rattle.term_nodes.specs.Things.{term_at, things}
use Rattle.term_nodes.specs.declared.items.Item.{Item}
use Rattle.term_nodes.proofs.Ranges.{same_sight}
use Rattle.term_store.specs.Stores.{root_of}
use Rattle.term_store.proofs.WideReading.{read_as}
use Rattle.term_store.proofs.store.TermStore.range_known.Goals as goal

pub range-requires-clause-exists : goal.range-requires-clause-exists
range-requires-clause-exists c = subst (λ (items : List Item). c.args.id < length items) (sym c.wide.ensures.items) c.requires.exists

pub returns : goal.returns
returns c =
    same_sight _ _ _ _ c.range.ensures.interval c.range.ensures.mark
    ∙ read_as (λ r root b items. range r root b (term_at (things items) c.args.id)) c.wide.result (root_of c.args.self.now) c.args.self.now.items.items c.wide.ensures.reading c.wide.ensures.root c.wide.ensures.view c.wide.ensures.items
