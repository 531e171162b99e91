use Rattle.std.proofs.Common.{rules, arith, ◌-◌, false, length, get_or, Fits, w64, ◌∙◌}
use Rattle.term_nodes.specs.declared.nodes.Signed.{Signed}
use Rattle.term_store.specs.Stores.{all, root_of}
use Rattle.term_nodes.proofs.Steps.{part_back}
use Rattle.term_store.proofs.Summing.{all_weight, sum_room_at}
use Rattle.term_store.proofs.store.TermStore.sum_weight.Goals as goal

pub weight_known-weight-requires-clause-exists : goal.weight_known-weight-requires-clause-exists
weight_known-weight-requires-clause-exists c =
    let none : Signed = record { subtracted = false; term = 0 } in
    part_back (length c.args.self.now.items.items) c.args.parts.now c.loop-i.i none c.requires.exist c.loop-i-test.true c.loop-i.auto.i

pub overflow_add-sum : goal.overflow_add-sum
overflow_add-sum c =
    let none : Signed = record { subtracted = false; term = 0 } in
    let part : Signed = get_or c.args.parts.now (c.loop-i.i - 1) none in
    let few : Fits w64 (length c.args.parts.now) = search rules in
    let room = sum_room_at (root_of c.args.self.now) c.args.self.now.items.items c.args.parts.now c.loop-i.i part.term c.loop-i.sum c.from-sum.result c.requires.sound.built few.fits
    c.loop-i.invariant (c.from-sum.ensures ∙ c.weight_known-weight.ensures) in
    record { fits = omega (arith, room) }

pub returns : goal.returns
returns c = all_weight (root_of c.args.self.now) (all c.args.self.now) c.args.parts.now c.loop-i.i c.loop-i.sum c.loop-i-test.false c.loop-i.invariant
