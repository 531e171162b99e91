use Rattle.std.proofs.Common.{arith, ap, length}
use Rattle.std.proofs.lemmas.List.{length-map}
use Rattle.sopl_base.specs.declared.interval.Interval.{Interval}
use Rattle.box_problem.proofs.Shared.{made_box}
use Rattle.box_store.proofs.Trails.{none_kept}
use Rattle.box_store.proofs.store.BoxStore.new.Goals as goal

pub invariant_of-result : goal.invariant_of-result
invariant_of-result c = record {
  few = omega (arith, ap length c.in_ok-lows_of.ensures, length-map c.args.roots.now (λ (i : Interval). i.lo), c.requires.few);
  is_box = made_box c.args.roots.now c.in_ok-lows_of.field-0.items c.in_ok-highs_of.field-0.items c.in_ok-lows_of.ensures c.in_ok-highs_of.ensures;
  trail = rw c.new-trail.ensures.items tt;
  kept = none_kept _ _ _ c.new-changes.ensures.items c.new-trail.ensures.items;
  trail_room = omega arith;
  changes_room = omega arith;
}
