use Rattle.std.proofs.Common.{◌≡◌, ◌<◌, ◌≤◌, ℕ, false, length, map}
use Rattle.prop_core.specs.Members.{StillFit}
use Rattle.prop_core.specs.Watches.{AllInStep, AreCalm, waits_at}
use Rattle.prop_core.proofs.keeping.find_kept_between.Given as goal

abbrev pub invariant-members : goal.invariant-members
invariant-members g l = record {
  done : (k : ℕ) → l.fn.start ≤ k → k < l.at → waits_at l.waits k ≡ false;
  as_long : length l.waits ≡ length l.list;
  in_step : AllInStep g.P.Propagator.in_step l.program l.store.box l.list;
  calm : AreCalm (g.P.Propagator.problem l.program) (map g.P.Propagator.reasons l.fn.list) l.best l.store.box l.waits;
  same_reasons : map g.P.Propagator.reasons l.list ≡ map g.P.Propagator.reasons l.fn.list;
  same_watches : map g.P.Propagator.watches l.list ≡ map g.P.Propagator.watches l.fn.list;
  still_fit : StillFit g.P.Propagator.fits l.fn.list l.list;
}
