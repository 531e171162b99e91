use Rattle.std.proofs.Common.{arith, ◌∙◌}
use Rattle.term_math.specs.Shown.{box_in}
use Rattle.term_math.specs.Sums.{wide_form}
use Rattle.term_nodes.proofs.Ready.{small_term}
use Rattle.term_goals.proofs.Summing.{size_room, size_of_term}
use Rattle.term_goals.proofs.sizes.size_at.Goals as goal

pub weight-requires : goal.weight-requires
weight-requires c =
    let is = c.in_ok-wide.ensures ∙ c.form_at.ensures (box_in c.args.here.now.root) c.requires.ready.built in
    let room = size_room (box_in c.args.here.now.root) c.args.here.now.items.now c.args.id (wide_form c.in_ok-wide.wide) c.requires.ready.built is in
    record { room = omega (arith, room) }

pub overflow_add-result : goal.overflow_add-result
overflow_add-result c =
    let is = c.in_ok-wide.ensures ∙ c.form_at.ensures (box_in c.args.here.now.root) c.requires.ready.built in
    let sum = size_of_term (box_in c.args.here.now.root) c.args.here.now.items.now c.args.id (wide_form c.in_ok-wide.wide) c.weight.result c.from.result is c.weight.ensures (c.from.ensures
    ∙ c.weight_at.ensures) in
    let small = (small_term (box_in c.args.here.now.root) c.args.here.now.items.now c.args.id c.requires.ready.built).small in
    record { fits = omega (arith, sum, small) }

pub returns : goal.returns
returns c =
    let is = c.in_ok-wide.ensures ∙ c.form_at.ensures (box_in c.args.here.now.root) c.requires.ready.built in
    size_of_term (box_in c.args.here.now.root) c.args.here.now.items.now c.args.id (wide_form c.in_ok-wide.wide) c.weight.result c.from.result is c.weight.ensures (c.from.ensures
    ∙ c.weight_at.ensures)
