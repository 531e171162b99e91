use Rattle.std.proofs.Common.{arith, ◌≡◌, ◌+◌, ◌<◌, ◌≤◌, ◌^◌, ap, subst, sym, ◌∙◌}
use Rattle.box_problem.specs.Box.{Box}
use Rattle.term_math.specs.Sums.{weight_in, wide_form}
use Rattle.term_store.specs.Stores.{root_of}
use Rattle.term_store.proofs.Multiplying.{weight_room}
use Rattle.term_store.proofs.Summing.{form_small}
use Rattle.term_store.proofs.store.TermStore.measured_product.Goals as goal

pub weight-requires : goal.weight-requires
weight-requires c =
    let room = weight_room (root_of c.args.self.now) c.args.self.now.items.items c.args.a c.args.b (wide_form c.in_ok-wide.wide) c.product_weight-weight.result c.requires.sound.built
    (c.in_ok-wide.ensures) c.product_weight-weight.ensures in
    let here : weight_in (root_of c.args.self.now) (wide_form c.in_ok-wide.wide) < 2 ^ 127 = omega (arith, room) in
    record { room = subst (λ (b : Box). weight_in b (wide_form c.in_ok-wide.wide) < 2 ^ 127) (sym c.root.ensures.root) here }

pub measured-requires : goal.measured-requires
measured-requires c =
    let is : c.weight.result ≡ weight_in (root_of c.args.self.now) (wide_form c.in_ok-wide.wide) = c.weight.ensures ∙ ap (λ (b : Box). weight_in b (wide_form c.in_ok-wide.wide)) c.root.ensures.root in
    let room = weight_room (root_of c.args.self.now) c.args.self.now.items.items c.args.a c.args.b (wide_form c.in_ok-wide.wide) c.product_weight-weight.result c.requires.sound.built
    (c.in_ok-wide.ensures) c.product_weight-weight.ensures in
    record { room = omega (arith, room, is) }

pub overflow_add-weight : goal.overflow_add-weight
overflow_add-weight c =
    let is : c.weight.result ≡ weight_in (root_of c.args.self.now) (wide_form c.in_ok-wide.wide) = c.weight.ensures ∙ ap (λ (b : Box). weight_in b (wide_form c.in_ok-wide.wide)) c.root.ensures.root in
    let room = weight_room (root_of c.args.self.now) c.args.self.now.items.items c.args.a c.args.b (wide_form c.in_ok-wide.wide) c.product_weight-weight.result c.requires.sound.built
    (c.in_ok-wide.ensures) c.product_weight-weight.ensures in
    record { fits = omega (arith, room, is) }

pub narrowed-requires : goal.narrowed-requires
narrowed-requires c =
    let is : c.weight.result ≡ weight_in (root_of c.args.self.now) (wide_form c.in_ok-wide.wide) = c.weight.ensures ∙ ap (λ (b : Box). weight_in b (wide_form c.in_ok-wide.wide)) c.root.ensures.root in
    let small : c.weight.result + c.product_weight-weight.result ≤ 2 ^ 40 = c.in_ok-measured.ensures in
    record { small = form_small (root_of c.args.self.now) (wide_form c.in_ok-wide.wide) c.product_weight-weight.result (omega (arith, is, small)) }
