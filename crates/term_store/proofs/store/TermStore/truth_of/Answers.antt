use Rattle.std.proofs.Common.{◌∙◌, ℕ, List, arith, ap, length, subst, sym}
use Rattle.box_problem.specs.Box.{Box}
use Rattle.term_language.specs.Rules.{truth}
use Rattle.term_nodes.specs.Built.{IsBelow, IsRight}
use Rattle.term_nodes.specs.Things.{cond_in, thing_of, things}
use Rattle.term_nodes.specs.declared.items.Item.{Item}
use Rattle.term_store.specs.Stores.{root_of}
use Rattle.term_store.proofs.WideReading.{read_as}
use Rattle.term_store.proofs.store.TermStore.truth_of.Goals as goal

pub node_truth-requires-clause-exists : goal.node_truth-requires-clause-exists
node_truth-requires-clause-exists c = omega (arith, c.nodes.ensures, ap length c.wide.ensures.items)

pub node_truth-requires-clause-below : goal.node_truth-requires-clause-below
node_truth-requires-clause-below c = subst (λ (n : ℕ). IsBelow n c.args.node.now) (sym c.nodes.ensures) c.requires.below

pub node_truth-requires-clause-right : goal.node_truth-requires-clause-right
node_truth-requires-clause-right c =
    subst (λ (root : Box). IsRight root (things c.wide.result.items.now) c.args.node.now) (sym c.wide.ensures.root)
    (subst (λ (items : List Item). IsRight (root_of c.args.self.now) (things items) c.args.node.now) (sym c.wide.ensures.items) c.requires.right)

pub returns : goal.returns
returns c = c.node_truth.ensures ∙ read_as (λ r root b items. truth r root b (cond_in (thing_of (things items) c.args.node.now))) c.wide.result (root_of c.args.self.now) c.args.self.now.items.items c.wide.ensures.reading c.wide.ensures.root c.wide.ensures.view c.wide.ensures.items
