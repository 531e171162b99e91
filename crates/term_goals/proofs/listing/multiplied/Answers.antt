use Rattle.std.proofs.Common.{◌<◌, ◌^◌, ℤ, ◌*ℤ◌, unsigned_abs, ap, subst, sym, ◌∙◌}
use Rattle.term_language.specs.Forms.{Form, is_constant}
use Rattle.term_math.specs.Shown.{box_in}
use Rattle.term_nodes.specs.Things.{term_at, things}
use Rattle.term_goals.specs.declared.sums.Atom.{Atom}
use Rattle.term_goals.proofs.Growing.{left_room, right_room}
use Rattle.term_goals.proofs.Operands.{left_operand, right_operand}
use Rattle.term_goals.proofs.listing.multiplied.Goals as goal

pub product-requires : goal.product-requires
product-requires c =
    let root = box_in c.args.here.now.root in
    let all = things c.args.here.now.items.now in
    let f_is = c.form_at-f.ensures root c.requires.ready.built in
    let left = ap is_constant (sym f_is) ∙ sym c.is_constant.ensures ∙ c.if-is_constant.true in
    let constant = c.factor.ensures ∙ ap (λ (f : Form). f.constant) f_is in
    let rooms = left_room root (term_at all c.args.a) (term_at all c.args.b) (term_at all c.args.atom.now.term) c.args.atom.now.k c.requires.is left c.requires.other c.requires.room in
    let room = subst (λ (z : ℤ). unsigned_abs (c.args.atom.now.k *ℤ z) < 2 ^ 127) (sym constant) rooms.1 in
    record { room = subst (λ (z : ℤ). unsigned_abs (z *ℤ c.factor.result.k) < 2 ^ 127) (sym c.factor-before.ensures) room }

pub returns-then-is_constant-clause-same : goal.returns-then-is_constant-clause-same
returns-then-is_constant-clause-same c =
    let root = box_in c.args.here.now.root in
    let all = things c.args.here.now.items.now in
    let f_is = c.form_at-f.ensures root c.requires.ready.built in
    let left = ap is_constant (sym f_is) ∙ sym c.is_constant.ensures ∙ c.if-is_constant.true in
    let constant = c.factor.ensures ∙ ap (λ (f : Form). f.constant) f_is in
    let times = c.product.ensures ∙ ap (λ (z : ℤ). z *ℤ c.factor.result.k) c.factor-before.ensures in
    let of : ℤ → Atom = λ z. record { k = z; term = c.args.b } in
    left_operand root all c.args.atom.now c.times.result c.args.a c.args.b c.factor.result.k c.requires.right c.requires.is left c.requires.other c.requires.room constant (c.times.ensures
    ∙ ap of times)

pub product-requires-then-is_constant-2 : goal.product-requires-then-is_constant-2
product-requires-then-is_constant-2 c =
    let root = box_in c.args.here.now.root in
    let all = things c.args.here.now.items.now in
    let f_is = c.form_at-f.ensures root c.requires.ready.built in
    let g_is = c.form_at-g.ensures root c.requires.ready.built in
    let left = ap is_constant (sym f_is) ∙ sym c.is_constant.ensures ∙ c.if-is_constant.false in
    let right = ap is_constant (sym g_is) ∙ sym c.is_constant-2.ensures ∙ c.if-is_constant-2.true in
    let constant = c.factor-then-is_constant-2.ensures ∙ ap (λ (f : Form). f.constant) g_is in
    let rooms = right_room root (term_at all c.args.a) (term_at all c.args.b) (term_at all c.args.atom.now.term) c.args.atom.now.k c.requires.is left right c.requires.other c.requires.room in
    let room = subst (λ (z : ℤ). unsigned_abs (c.args.atom.now.k *ℤ z) < 2 ^ 127) (sym constant) rooms.1 in
    record { room = subst (λ (z : ℤ). unsigned_abs (z *ℤ c.factor-then-is_constant-2.result.k) < 2 ^ 127) (sym c.factor-before.ensures) room }

pub returns-then-is_constant-2-clause-same : goal.returns-then-is_constant-2-clause-same
returns-then-is_constant-2-clause-same c =
    let root = box_in c.args.here.now.root in
    let all = things c.args.here.now.items.now in
    let f_is = c.form_at-f.ensures root c.requires.ready.built in
    let g_is = c.form_at-g.ensures root c.requires.ready.built in
    let left = ap is_constant (sym f_is) ∙ sym c.is_constant.ensures ∙ c.if-is_constant.false in
    let right = ap is_constant (sym g_is) ∙ sym c.is_constant-2.ensures ∙ c.if-is_constant-2.true in
    let constant = c.factor-then-is_constant-2.ensures ∙ ap (λ (f : Form). f.constant) g_is in
    let times = c.product-then-is_constant-2.ensures ∙ ap (λ (z : ℤ). z *ℤ c.factor-then-is_constant-2.result.k) c.factor-before.ensures in
    let of : ℤ → Atom = λ z. record { k = z; term = c.args.a } in
    right_operand root all c.args.atom.now c.times-then-is_constant-2.result c.args.a c.args.b c.factor-then-is_constant-2.result.k c.requires.left c.requires.is left right c.requires.other
    c.requires.room constant (c.times-then-is_constant-2.ensures ∙ ap of times)
