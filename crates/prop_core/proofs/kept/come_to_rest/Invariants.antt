use Rattle.std.proofs.Common.{◌≡◌, ◌≤◌, length, map}
use Rattle.box_problem.specs.Box.{Inside, width}
use Rattle.box_problem.specs.Rightness.{Appended}
use Rattle.prop_core.specs.Members.{StillFit}
use Rattle.prop_core.specs.Watches.{AllInStep, AreCalm}
use Rattle.prop_core.proofs.kept.come_to_rest.Given as goal

abbrev pub invariant-cuts : goal.invariant-cuts
invariant-cuts g l = record {
  inside : Inside l.store.box (g.P.Propagator.problem l.program).root;
  steps : Appended (g.P.Propagator.problem l.program) l.best l.fn.store.box l.fn.steps l.steps l.store.box;
  marks : l.store.marks ≡ l.fn.store.marks;
  as_long : length l.waits ≡ length l.list;
  in_step : AllInStep g.P.Propagator.in_step l.program l.store.box l.list;
  calm : AreCalm (g.P.Propagator.problem l.program) (map g.P.Propagator.reasons l.fn.list) l.best l.store.box l.waits;
  same_reasons : map g.P.Propagator.reasons l.list ≡ map g.P.Propagator.reasons l.fn.list;
  same_watches : map g.P.Propagator.watches l.list ≡ map g.P.Propagator.watches l.fn.list;
  bound : l.start ≤ length l.list;
  still_fit : StillFit g.P.Propagator.fits l.fn.list l.list;
}

abbrev pub decreases-cuts : goal.decreases-cuts
decreases-cuts g l = width l.store.box
