use Rattle.std.proofs.Common.{subst, sym}
use Rattle.box_problem.specs.Box.{Box}
use Rattle.term_math.specs.Shown.{ProductFits, ends_of}
use Rattle.term_store.specs.Stores.{root_of}
use Rattle.term_store.proofs.Multiplying.{product_known_fits}
use Rattle.term_store.proofs.store.TermStore.product_facts.Goals as goal

pub product-wide-requires : goal.product-wide-requires
product-wide-requires c = record {
  fits =
      subst (λ (b : Box). ProductFits b c.form_known.result.now c.form_known-2.result.now (ends_of c.wide_known-left.result.ends) (ends_of c.wide_known-right.result.ends)) (sym c.root.ensures.root)
      (product_known_fits (root_of c.args.self.now) c.args.self.now.items.items c.args.a c.args.b c.form_known.result.now c.form_known-2.result.now c.wide_known-left.result
      c.wide_known-right.result c.requires.sound.root_is_box c.requires.sound.built c.form_known.ensures c.form_known-2.ensures c.wide_known-left.ensures c.wide_known-right.ensures
      c.requires.small);
}
