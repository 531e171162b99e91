use Rattle.std.proofs.Common.{◌≡◌, map, take}
use Rattle.prop_core.specs.Members.{StillFit}
use Rattle.prop_core.specs.Waking.{AreTouched, StillInStep}
use Rattle.prop_core.proofs.waking.touch_at.Given as goal

abbrev pub invariant-places : goal.invariant-places
invariant-places g l = record {
  still_in_step : StillInStep g.P.Propagator.in_step l.fn.list l.list;
  touched : AreTouched g.P.Propagator.in_step l.cell (take l.place-index l.places) l.fn.list l.list;
  same_reasons : map g.P.Propagator.reasons l.list ≡ map g.P.Propagator.reasons l.fn.list;
  same_watches : map g.P.Propagator.watches l.list ≡ map g.P.Propagator.watches l.fn.list;
  still_fit : StillFit g.P.Propagator.fits l.fn.list l.list;
}
