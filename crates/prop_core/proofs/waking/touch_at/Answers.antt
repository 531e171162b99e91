use Rattle.std.proofs.Common.{◌<◌, ◌∙◌, rules, get_or, length}
use Rattle.std.proofs.Math.Seq.{map-set_same}
use Rattle.prop_core.proofs.Members.{fit_set, same_set}
use Rattle.prop_core.proofs.Told.{place_exists, still_more, touched_all, touched_next}
use Rattle.prop_core.proofs.waking.touch_at.Goals as goal

pub bounds-list-at : goal.bounds-list-at
bounds-list-at g c =
    place_exists g.P.Propagator.reasons c.args.places.now c.args.list.now c.places.list c.places.place-index c.places-test.true c.requires.below c.places.invariant.same_reasons

pub offset_bounds-list-at : goal.offset_bounds-list-at
offset_bounds-list-at g c =
    let exists : get_or c.args.places.now c.places.place-index 0 < length c.places.list =
    place_exists g.P.Propagator.reasons c.args.places.now c.args.list.now c.places.list c.places.place-index c.places-test.true c.requires.below c.places.invariant.same_reasons in
    search rules

pub places-preserved : goal.places-preserved
places-preserved g c =
    let inv = c.places.invariant in
    let at = get_or c.args.places.now c.places.place-index 0 in
    let exists : get_or c.args.places.now c.places.place-index 0 < length c.places.list =
    place_exists g.P.Propagator.reasons c.args.places.now c.args.list.now c.places.list c.places.place-index c.places-test.true c.requires.below inv.same_reasons in
    record {
      still_in_step = still_more g.P.Propagator.in_step c.args.cell c.args.list.now c.places.list at c.index-list-at.result c.touched.new.self exists inv.still_in_step c.touched.ensures.in_step;
      touched = touched_next g.P.Propagator.in_step c.args.cell c.args.places.now c.args.list.now c.places.list c.places.place-index c.index-list-at.result c.touched.new.self c.places-test.true exists
          inv.still_in_step inv.touched c.touched.ensures.in_step;
      same_reasons = same_set g.P.Propagator.reasons c.places.list c.args.list.now at c.touched.new.self c.index-list-at.result inv.same_reasons c.touched.ensures.same_reasons;
      same_watches = map-set_same g.P.Propagator.watches c.places.list at c.touched.new.self c.index-list-at.result c.touched.ensures.same_watches ∙ inv.same_watches;
      still_fit = fit_set g.P.Propagator.fits c.args.list.now c.places.list at c.touched.new.self c.index-list-at.result inv.still_fit exists (λ program fits. c.touched.ensures.still_fits program fits);
    }

pub returns-clause-touched : goal.returns-clause-touched
returns-clause-touched g c =
    touched_all g.P.Propagator.in_step c.args.cell c.args.places.now c.args.list.now c.places.list c.places.place-index (search rules) c.places.invariant.touched
