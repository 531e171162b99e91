use Rattle.std.proofs.Common.{◌∙◌, ℕ, List, ap, subst, sym}
use Rattle.box_problem.specs.Box.{Box}
use Rattle.term_language.specs.Terms.{Sum}
use Rattle.term_nodes.specs.Built.{IsSoundTerm, PartsBelow}
use Rattle.term_nodes.specs.Seen.{sum_sight}
use Rattle.term_nodes.specs.Things.{parts_at, things}
use Rattle.term_nodes.specs.declared.items.Item.{Item}
use Rattle.term_store.proofs.Summing.{parts_proper}
use Rattle.term_store.specs.Stores.{root_of}
use Rattle.term_store.proofs.WideReading.{read_as}
use Rattle.term_store.proofs.store.TermStore.sum_wide.Goals as goal

pub sum-requires-clause-below : goal.sum-requires-clause-below
sum-requires-clause-below c = subst (λ (n : ℕ). PartsBelow n c.args.parts.now) (sym c.nodes.ensures) c.requires.exist

pub sum-requires-clause-sound : goal.sum-requires-clause-sound
sum-requires-clause-sound c =
    subst (λ (root : Box). IsSoundTerm root (Sum (parts_at (things c.wide.result.items.now) c.args.parts.now))) (sym c.wide.ensures.root)
    (subst (λ (items : List Item). IsSoundTerm (root_of c.args.self.now) (Sum (parts_at (things items) c.args.parts.now))) (sym c.wide.ensures.items)
    (record { proper = parts_proper (root_of c.args.self.now) c.args.self.now.items.items c.args.parts.now c.requires.sound.built; small = c.requires.small }))

pub returns : goal.returns
returns c = c.sum.ensures ∙ read_as (λ r root b items. sum_sight r root b (parts_at (things items) c.args.parts.now)) c.wide.result (root_of c.args.self.now) c.args.self.now.items.items c.wide.ensures.reading c.wide.ensures.root c.wide.ensures.view c.wide.ensures.items
