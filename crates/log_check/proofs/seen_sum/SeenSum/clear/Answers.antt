use Rattle.std.proofs.Common.{◌≡◌, ◌∙◌, arith, length-set, pos, refl}
use Rattle.sopl_base.specs.declared.wide.Wide.{Wide}
use Rattle.prop_chance.proofs.Setting.{holds_all, holds_more}
use Rattle.log_check.proofs.seen_sum.SeenSum.clear.Goals as goal

pub places-preserved : goal.places-preserved
places-preserved c = record {
  cleared = holds_more (λ (w : Wide). w.value ≡ pos 0) c.places.self.parts.items c.places.at (record { value = pos 0 }) (record { value = pos 0 }) refl refl c.places.invariant.cleared;
  lists = c.places.invariant.lists;
  seen = c.places.invariant.seen;
  count = length-set c.places.self.parts.items c.places.at (record { value = pos 0 }) ∙ c.places.invariant.count;
}

pub returns : goal.returns
returns c = record {
  cleared = holds_all (λ (w : Wide). w.value ≡ pos 0) c.places.self.parts.items (record { value = pos 0 }) refl
      (λ k below. c.places.invariant.cleared k (omega (arith, below, c.places.invariant.count, c.places-test.false)));
  sum = refl;
  lists = c.places.invariant.lists;
  seen = c.places.invariant.seen;
  count = c.places.invariant.count;
}
