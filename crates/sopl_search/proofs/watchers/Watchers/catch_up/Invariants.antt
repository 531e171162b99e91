use Rattle.std.proofs.Common.{◌≡◌, map}
use Rattle.prop_core.specs.Members.{StillFit}
use Rattle.sopl_search.specs.Following.{followed_box}
use Rattle.sopl_search.proofs.Followed.{FollowsOn, IsMixed}
use Rattle.sopl_search.proofs.watchers.Watchers.catch_up.Given as goal

abbrev pub invariant-cells : goal.invariant-cells
invariant-cells g l = record {
  mixed : IsMixed l.cell (followed_box l.fn.self) l.store.box (followed_box l.self);
  in_step : FollowsOn g.P.Propagator.problem g.P.Propagator.fits g.P.Propagator.in_step (followed_box l.fn.self) l.store.box (followed_box l.self) l.fn.self.list.items l.self.list.items;
  watch : l.self.watch ≡ l.fn.self.watch;
  same_reasons : map g.P.Propagator.reasons l.self.list.items ≡ map g.P.Propagator.reasons l.fn.self.list.items;
  same_watches : map g.P.Propagator.watches l.self.list.items ≡ map g.P.Propagator.watches l.fn.self.list.items;
  still_fit : StillFit g.P.Propagator.fits l.fn.self.list.items l.self.list.items;
}
