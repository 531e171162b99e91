use Rattle.std.proofs.Common.{ℕ, List, Contains, arith, subst}
use Rattle.std.proofs.lemmas.List.{length-map}
use Rattle.prop_core.specs.Waking.{AreTouched}
use Rattle.prop_core.proofs.Onward.{in_step_on}
use Rattle.prop_core.proofs.waking.touch.Goals as goal

pub places-requires : goal.places-requires
places-requires g c = record { exists = omega (arith, c.requires.watch.1, c.requires.watch.2.as_long) }

pub touch_at-requires : goal.touch_at-requires
touch_at-requires g c = record {
  below = λ k has.
      omega (
        arith,
        length-map c.args.list.now g.P.Propagator.watches,
        ((c.requires.watch.2.each c.args.cell k c.requires.watch.1).0 (subst (λ (ps : List ℕ). Contains ps k) c.places.ensures has)).0,
      );
}

pub returns-clause-in_step : goal.returns-clause-in_step
returns-clause-in_step g c = λ program b after fit b_in after_in agree all.
    in_step_on g.P.Propagator.in_step g.P.Propagator.fits g.P.Propagator.watches program b after c.args.watch.now c.requires.watch.0 c.args.cell c.args.list.now c.touch_at.new.list
    (λ m fits on step. g.met.P.Watching.steps_agree m program b after fits b_in after_in on step)
    (c.touch_at.ensures.still_fit program fit) c.requires.watch.1 c.requires.watch.2 c.touch_at.ensures.same_watches agree all c.touch_at.ensures.still_in_step
    (subst (λ (ps : List ℕ). AreTouched g.P.Propagator.in_step c.args.cell ps c.args.list.now c.touch_at.new.list) c.places.ensures c.touch_at.ensures.touched)
