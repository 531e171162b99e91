use Rattle.std.proofs.Common.{rules, arith, ◌≡◌, ℕ, ◌*◌, ◌<◌, ◌^◌, ℤ, ◌*ℤ◌, false, unsigned_abs, List, OnOk, get_or, ap, subst, sym, ◌∙◌}
use Rattle.std.proofs.lemmas.List.{get_or_default}
use Rattle.term_language.specs.Ends as ends
use Rattle.term_language.specs.Sizes.{atoms_weight, sum_weight}
use Rattle.term_math.specs.Shown.{box_in}
use Rattle.term_nodes.specs.declared.nodes.Node.TheVariants as node
use Rattle.term_nodes.specs.declared.nodes.Signed.{Signed}
use Rattle.term_nodes.specs.Built.{PartsBelow}
use Rattle.term_nodes.specs.Things.{parts_at, term_at, things}
use Rattle.term_nodes.proofs.Steps.{below_at, part_below}
use Rattle.term_goals.specs.Goals.{listed_ends}
use Rattle.term_goals.proofs.Growing.{plain_added, small_at, term_is, part_room, part_step, parts_done}
use Rattle.term_goals.proofs.listing.+list.Goals as goal

pub add-add_bare-requires : goal.add-add_bare-requires
add-add_bare-requires t c = (omega (arith, c.products.invariant.below), (c.requires.ready, (c.products.invariant.room, c.in_default.ensures.bare)))

pub add-returns-clause-sum : goal.add-returns-clause-sum
add-returns-clause-sum t c = λ b inside.
    let root = box_in c.args.here.now.root in
    let all = things c.args.here.now.items.now in
    subst (λ (e : ends.Ends). OnOk c.add_bare.result (listed_ends root b all c.add_bare.new.list.items ≡ ends.plus (listed_ends root b all c.args.list.now.items) e)) (c.products.invariant.sum b)
    (c.add_bare.ensures.sum b inside)

pub add_bare-returns-then-item-clause-sum : goal.add_bare-returns-then-item-clause-sum
add_bare-returns-then-item-clause-sum t c = λ b inside.
    plain_added c.args.here.now b c.args.list.now.items c.args.atom.now.k c.args.atom.now.term c.in-Some.item.now c.requires.ready
    (c.in-Some.ensures.some (box_in c.args.here.now.root) c.requires.ready.built) c.if-item.true inside

pub add_bare-add_parts-requires : goal.add_bare-add_parts-requires
add_bare-add_parts-requires t c =
    let root = box_in c.args.here.now.root in
    let all = things c.args.here.now.items.now in
    let at = c.in-Some.ensures.some root c.requires.ready.built in
    let same : c.as_slice.result.now ≡ c.in-Sum.parts.items = search rules in
    let weight : atoms_weight root (term_at all c.args.atom.now.term) ≡ sum_weight root (parts_at all c.as_slice.result.now) =
    ap (atoms_weight root) (term_is root all c.args.atom.now.term c.in-Some.item.now (node.Sum c.in-Sum.parts) at c.in-Sum.is)
    ∙ ap (λ (xs : List Signed). sum_weight root (parts_at all xs)) (sym same) in (
      omega arith,
      (
        c.requires.ready,
        (
          subst (PartsBelow c.args.atom.now.term) (sym same) (below_at root all c.args.atom.now.term c.in-Some.item.now (node.Sum c.in-Sum.parts) at c.in-Sum.is),
          (
            subst (λ (z : ℤ). unsigned_abs z < 2 ^ 127) (sym c.factor.ensures) (small_at root all c.args.atom.now.term c.in-Some.item.now c.args.atom.now.k at c.if-item.false c.requires.room),
            subst (λ (z : ℤ). unsigned_abs z * sum_weight root (parts_at all c.as_slice.result.now) < 2 ^ 127) (sym c.factor.ensures)
                (subst (λ (n : ℕ). unsigned_abs c.args.atom.now.k * n < 2 ^ 127) weight c.requires.room),
          ),
        ),
      ),
    )

pub add_parts-add-requires : goal.add_parts-add-requires
add_parts-add-requires t c =
    let root = box_in c.args.here.now.root in
    let all = things c.args.here.now.items.now in
    let none : Signed = record { subtracted = false; term = 0 } in
    let x : Signed = get_or c.args.parts.now c.loop-part.part-index none in
    let there = part_below c.args.limit c.args.parts.now c.loop-part.part-index x c.requires.below c.loop-part-test.true
    (get_or_default c.args.parts.now c.loop-part.part-index none x c.loop-part-test.true) in
    let is = c.product-signed.ensures ∙ ap (λ (z : ℤ). c.args.times.now.value *ℤ z) c.factor.ensures in
    (omega (arith, there), (c.requires.ready, part_room root all c.args.parts.now c.loop-part.part-index none c.args.times.now.value c.product-signed.result.value c.loop-part-test.true is c.requires.room))

pub add_parts-loop-part-preserved : goal.add_parts-loop-part-preserved
add_parts-loop-part-preserved t c = record {
  sum = λ b inside.
      let root = box_in c.args.here.now.root in
      let all = things c.args.here.now.items.now in
      let none : Signed = record { subtracted = false; term = 0 } in
      let is = c.product-signed.ensures ∙ ap (λ (z : ℤ). c.args.times.now.value *ℤ z) c.factor.ensures in
      part_step c.args.here.now b c.args.parts.now c.loop-part.part-index none c.args.times.now.value c.product-signed.result.value (listed_ends root b all c.loop-part.list.items)
      (listed_ends root b all c.add.new.list.items) _
      c.requires.ready inside c.loop-part-test.true is (c.in_ok-add.ensures.sum b inside) (c.loop-part.invariant.sum b inside);
  exist = λ all. c.in_ok-add.ensures.exist (c.loop-part.invariant.exist all);
}

pub add_parts-returns-clause-sum : goal.add_parts-returns-clause-sum
add_parts-returns-clause-sum t c = λ b inside.
    let root = box_in c.args.here.now.root in
    let all = things c.args.here.now.items.now in
    parts_done root b all c.args.parts.now c.loop-part.part-index c.args.times.now.value (listed_ends root b all c.loop-part.list.items) _ c.loop-part-test.false (c.loop-part.invariant.sum b inside)

pub add_parts-returns-clause-exist : goal.add_parts-returns-clause-exist
add_parts-returns-clause-exist t c = c.loop-part.invariant.exist
