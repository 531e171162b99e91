use Rattle.std.proofs.Common.{rules, arith, refl, ◌+◌, ◌≡◌, ap, sym, subst, ◌∙◌}
use Rattle.std.proofs.lemmas.List.Sums.{sum_by-cons}
use Rattle.sopl_base.proofs.Lists.{drop_next, mapped_next}
use Rattle.sopl_ast.proofs.Lighter.{weight-trees, weight-terms, weight-factors}
use Rattle.sopl_ast.specs.Lists.{binders}
use Rattle.sopl_ast.specs.Sight.{shape_of_kind}
use Rattle.sopl_ast.specs.TermNodes.{nodes}
use Rattle.sopl_ast.specs.Tree as t
use Rattle.sopl_ast.specs.Tree.{Node}
use Rattle.sopl_ast.specs.Weight.{weight}
use Rattle.unfold_constants.specs.Here.{known_in}
use Rattle.compile_counts.specs.Walked.{IsWalked}
use Rattle.compile_counts.specs.Counted.{capped}
use Rattle.compile_counts.proofs.Counting.{either, left_first, left_holds, left_more, left_none}
use Rattle.compile_counts.proofs.Loops.{none_is}
use Rattle.compile_counts.proofs.expressions.+count.Goals as goal

pub nodes_of-returns-in_ok-inside-in-Cumulative : goal.nodes_of-returns-in_ok-inside-in-Cumulative
nodes_of-returns-in_ok-inside-in-Cumulative s c =
    let same : Node c.e.inside.at (t.Cumulative (binders c.in-Cumulative.over) c.deref.result.now c.deref-in-Cumulative.result.now c.deref-in-Cumulative-2.result.now
    c.deref-in-Cumulative-3.result.now) ≡ c.args.e.now = search rules in
    record { nodes = c.with_operator-in-Cumulative.ensures.both _ c.in_ok-inside-in-Cumulative.ensures.nodes ∙ ap (λ e. capped (nodes (known_in c.args.known.now) e)) same }

pub nodes_of-returns-in_ok-nodes_behind-in-Sum : goal.nodes_of-returns-in_ok-nodes_behind-in-Sum
nodes_of-returns-in_ok-nodes_behind-in-Sum s c =
    let part : c.deref-in-Sum.result.now ≡ c.in-Sum.part.value = search rules in
    let counted = c.with_operator-in-Sum.ensures.both _ c.in_ok-nodes_behind-in-Sum.ensures.nodes in
    let view = ap (λ e. capped (nodes (known_in c.args.known.now) e)) c.e.view_is in
    record {
      nodes = either
          (λ is. counted
          ∙ ap (λ p. capped (nodes (known_in c.args.known.now) (Node c.e.inside.at (t.Sum (binders c.in-Sum.over) p)))) part
          ∙ ap (λ k. capped (nodes (known_in c.args.known.now) (Node c.e.inside.at (shape_of_kind k)))) (sym is)
          ∙ view)
          (λ is. counted
          ∙ ap (λ p. capped (nodes (known_in c.args.known.now) (Node c.e.inside.at (t.AllDifferent (binders c.in-Sum.over) p)))) part
          ∙ ap (λ k. capped (nodes (known_in c.args.known.now) (Node c.e.inside.at (shape_of_kind k)))) (sym is)
          ∙ view) c.in-Sum.is;
    }

pub nodes_of_all-parts-init : goal.nodes_of_all-parts-init
nodes_of_all-parts-init s c = left_first c.args.parts.now _ c.requires.walked c.none-sum.ensures.none

pub nodes_of_all-nodes_of-requires : goal.nodes_of_all-nodes_of-requires
nodes_of_all-nodes_of-requires s c = (
  omega (arith, weight-trees c.args.parts.now c.parts.part-index c.part-item.result c.parts-test.true, ap weight c.part-item.is),
  (left_holds c.parts.invariant (drop_next c.args.parts.now c.parts.part-index c.part-item.result c.parts-test.true c.part-item.is)).0,
)

pub nodes_of_all-parts-preserved : goal.nodes_of_all-parts-preserved
nodes_of_all-parts-preserved s c =
    left_more c.parts.invariant (nodes (known_in c.args.known.now) c.part-item.result) _ (drop_next c.args.parts.now c.parts.part-index c.part-item.result c.parts-test.true c.part-item.is) (λ xs. refl) (λ held. held.1) c.in_ok-inside.ensures.nodes c.plus-sum.ensures.both

pub nodes_of_all-returns : goal.nodes_of_all-returns
nodes_of_all-returns s c = record { nodes = left_none c.parts.invariant (none_is c.args.parts.now c.parts.part-index c.parts-test.false) refl }

pub nodes_of_terms-parts-init : goal.nodes_of_terms-parts-init
nodes_of_terms-parts-init s c = left_first c.args.parts.now _ c.requires.walked c.none-sum.ensures.none

pub nodes_of_terms-nodes_of-requires : goal.nodes_of_terms-nodes_of-requires
nodes_of_terms-nodes_of-requires s c = (
  omega (arith, weight-terms c.args.parts.now c.parts.part-index c.part-item.result c.parts-test.true, ap (λ p. weight p.1) c.part-item.is),
  (left_holds c.parts.invariant (drop_next c.args.parts.now c.parts.part-index c.part-item.result c.parts-test.true c.part-item.is)).0,
)

pub nodes_of_terms-returns : goal.nodes_of_terms-returns
nodes_of_terms-returns s c = record { nodes = left_none c.parts.invariant (none_is c.args.parts.now c.parts.part-index c.parts-test.false) refl }

pub nodes_of_factors-parts-init : goal.nodes_of_factors-parts-init
nodes_of_factors-parts-init s c = left_first c.args.parts.now _ c.requires.walked c.none-sum.ensures.none

pub nodes_of_factors-nodes_of-requires : goal.nodes_of_factors-nodes_of-requires
nodes_of_factors-nodes_of-requires s c = (
  omega (arith, weight-factors c.args.parts.now c.parts.part-index c.part-item.result c.parts-test.true, ap (λ p. weight p.1) c.part-item.is),
  subst (λ w. IsWalked w (known_in c.args.known.now) c.part-item.result.1) (sym c.whole_at.ensures.whole) (left_holds c.parts.invariant (drop_next c.args.parts.now c.parts.part-index c.part-item.result c.parts-test.true c.part-item.is)).1,
)

pub nodes_of_factors-returns : goal.nodes_of_factors-returns
nodes_of_factors-returns s c = record { nodes = left_none c.parts.invariant (none_is c.args.parts.now c.parts.part-index c.parts-test.false) refl }

pub nodes_at_each-places-preserved : goal.nodes_at_each-places-preserved
nodes_at_each-places-preserved s c =
    left_more c.places.invariant (nodes (known_in c.place-item.result) c.args.e.now) _ (mapped_next known_in c.args.places.now c.places.place-index c.place-item.result c.places-test.true c.place-item.is) (sum_by-cons (λ here. nodes here c.args.e.now) (known_in c.place-item.result)) (λ held. held.1)
    c.in_ok-inside.ensures.nodes c.plus-sum.ensures.both

pub nodes_of_each_task-places-preserved : goal.nodes_of_each_task-places-preserved
nodes_of_each_task-places-preserved s c =
    let task = c.args.task.now in
    left_more c.places.invariant (nodes (known_in c.place-item.result) task.start.now + (nodes (known_in c.place-item.result) task.duration.now + nodes (known_in c.place-item.result) task.demand.now)) _ (mapped_next known_in c.args.places.now c.places.place-index c.place-item.result c.places-test.true c.place-item.is)
    (sum_by-cons (λ here. nodes here task.start.now + (nodes here task.duration.now + nodes here task.demand.now)) (known_in c.place-item.result)) (λ held. held.1) c.in_ok-inside.ensures.nodes c.plus-sum.ensures.both

pub nodes_of_terms-parts-preserved : goal.nodes_of_terms-parts-preserved
nodes_of_terms-parts-preserved s c =
    left_more c.parts.invariant (nodes (known_in c.args.known.now) c.part-item.result.1) _ (drop_next c.args.parts.now c.parts.part-index c.part-item.result c.parts-test.true c.part-item.is) (λ xs. refl) (λ held. held.1) c.in_ok-inside.ensures.nodes c.plus-sum.ensures.both

pub nodes_of_factors-parts-preserved : goal.nodes_of_factors-parts-preserved
nodes_of_factors-parts-preserved s c =
    left_more c.parts.invariant (nodes (known_in c.args.known.now) c.part-item.result.1) _ (drop_next c.args.parts.now c.parts.part-index c.part-item.result c.parts-test.true c.part-item.is) (λ xs. refl) (λ held. held.2) c.in_ok-inside.ensures.nodes c.plus-sum.ensures.both
