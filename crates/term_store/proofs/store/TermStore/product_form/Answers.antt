use Rattle.term_math.specs.Shown.{form_of}
use Rattle.term_store.specs.Stores.{root_of}
use Rattle.term_store.proofs.Multiplying.{scaled_room}
use Rattle.term_store.proofs.store.TermStore.product_form.Goals as goal

pub scaled-requires : goal.scaled-requires
scaled-requires c = record {
  room = scaled_room (root_of c.args.self.now) c.args.self.now.items.items c.args.a c.args.b (form_of c.form_known-f.result.now) (form_of c.form_known-g.result.now) c.factor.result.k
      c.requires.sound.built c.form_known-f.ensures c.form_known-g.ensures c.factor.ensures;
}

pub scaled-requires-then-is_constant-2 : goal.scaled-requires-then-is_constant-2
scaled-requires-then-is_constant-2 c = record {
  room = scaled_room (root_of c.args.self.now) c.args.self.now.items.items c.args.b c.args.a (form_of c.form_known-g.result.now) (form_of c.form_known-f.result.now)
      c.factor-then-is_constant-2.result.k c.requires.sound.built c.form_known-g.ensures c.form_known-f.ensures c.factor-then-is_constant-2.ensures;
}
