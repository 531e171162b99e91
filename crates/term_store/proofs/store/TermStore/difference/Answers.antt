use Rattle.std.proofs.Common.{◌≡◌, ◌+◌, ◌*◌, ◌<◌, ◌^◌, pos, unsigned_abs, IfOk, ap, subst, sym, ◌∙◌}
use Rattle.term_language.specs.Forms.{Form, plus_form}
use Rattle.term_language.specs.Rules.{form}
use Rattle.term_math.specs.Shown.{form_of}
use Rattle.term_math.specs.Sums.{combination_of, mass_of, wide_form}
use Rattle.term_store.specs.Stores.{all, root_of}
use Rattle.term_nodes.specs.Things.{term_at}
use Rattle.term_store.proofs.Differences.{first_room, first_is, second_room, difference_is, difference_small}
use Rattle.term_store.proofs.store.TermStore.difference.Goals as goal

pub add-requires : goal.add-requires
add-requires c = record {
  room =
      subst (λ (h : Form). mass_of h + unsigned_abs (pos 1) * mass_of (form_of c.form_known-left.result.now) < 2 ^ 127) (sym c.new-sum.ensures)
      (first_room (root_of c.args.self.now) c.args.self.now.items.items c.args.a (form_of c.form_known-left.result.now) c.requires.sound.built c.form_known-left.ensures);
}

pub add-requires-2 : goal.add-requires-2
add-requires-2 c =
    let first : combination_of c.add.new.self ≡ form (root_of c.args.self.now) (term_at (all c.args.self.now) c.args.a) =
    first_is (root_of c.args.self.now) c.args.self.now.items.items c.args.a (form_of c.form_known-left.result.now) (combination_of c.add.new.self) c.form_known-left.ensures
    (c.in_ok-add.ensures ∙ ap (λ (h : Form). plus_form (pos 1) h (form_of c.form_known-left.result.now)) c.new-sum.ensures) in
    record {
      room = second_room (root_of c.args.self.now) c.args.self.now.items.items c.args.a c.args.b (combination_of c.add.new.self) (form_of c.form_known-right.result.now) c.requires.sound.built
          first c.form_known-right.ensures;
    }

pub narrowed-requires : goal.narrowed-requires
narrowed-requires c =
    let first : combination_of c.add.new.self ≡ form (root_of c.args.self.now) (term_at (all c.args.self.now) c.args.a) =
    first_is (root_of c.args.self.now) c.args.self.now.items.items c.args.a (form_of c.form_known-left.result.now) (combination_of c.add.new.self) c.form_known-left.ensures
    (c.in_ok-add.ensures ∙ ap (λ (h : Form). plus_form (pos 1) h (form_of c.form_known-left.result.now)) c.new-sum.ensures) in
    let is = difference_is (root_of c.args.self.now) c.args.self.now.items.items c.args.a c.args.b (combination_of c.add.new.self) (form_of c.form_known-right.result.now)
    (wide_form c.in_ok-wide.wide) first c.form_known-right.ensures (c.in_ok-wide.ensures ∙ c.in_ok-add-2.ensures) in
    record { small = difference_small (root_of c.args.self.now) c.args.self.now.items.items c.args.a c.args.b (wide_form c.in_ok-wide.wide) c.requires.sound.built is }

pub returns : goal.returns
returns c =
    let first : combination_of c.add.new.self ≡ form (root_of c.args.self.now) (term_at (all c.args.self.now) c.args.a) =
    first_is (root_of c.args.self.now) c.args.self.now.items.items c.args.a (form_of c.form_known-left.result.now) (combination_of c.add.new.self) c.form_known-left.ensures
    (c.in_ok-add.ensures ∙ ap (λ (h : Form). plus_form (pos 1) h (form_of c.form_known-left.result.now)) c.new-sum.ensures) in
    let is = difference_is (root_of c.args.self.now) c.args.self.now.items.items c.args.a c.args.b (combination_of c.add.new.self) (form_of c.form_known-right.result.now)
    (wide_form c.in_ok-wide.wide) first c.form_known-right.ensures (c.in_ok-wide.ensures ∙ c.in_ok-add-2.ensures) in
    subst (λ (h : Form). IfOk c.narrowed.result (λ form. form_of form ≡ h)) is c.narrowed.ensures
