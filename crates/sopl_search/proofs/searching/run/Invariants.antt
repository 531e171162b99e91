use Rattle.std.proofs.Common.{◌≡◌, ◌-◌, ◌<◌, ◌≤◌, ℕ, false, List, Option, map, option_map}
use Rattle.sopl_io.specs.Calls.{AllSucceeded}
use Rattle.brancher.specs.Rules.{Rule}
use Rattle.prop_core.specs.Members.{AllFit, together}
use Rattle.sopl_search.specs.Ends.{AreAll}
use Rattle.sopl_search.specs.Following.{AreFollowing}
use Rattle.sopl_search.specs.Frontiers.{IsRunning}
use Rattle.sopl_search.specs.Logged.{plan_of}
use Rattle.sopl_search.proofs.searching.run.Given as goal

abbrev pub invariant-nodes : goal.invariant-nodes
invariant-nodes g l = record {
  running : (asked : Option Rule) (before : Option (List ℕ)) → option_map (λ b. (goal.Brancher-dyn g (b.vtable, b.value)).rule b.value) l.fn.crew.brancher ≡ asked
      → IsRunning (g.P.Propagator.problem l.program) (plan_of l.fn.schedule asked l.budget) l.fn.crew.frontier before (g.K.Sink.taken l.fn.sink)
      → IsRunning (g.P.Propagator.problem l.program) (plan_of l.fn.schedule asked l.budget) l.crew.frontier before (g.K.Sink.taken l.sink);
  asked : option_map (λ b. (goal.Brancher-dyn g (b.vtable, b.value)).rule b.value) l.crew.brancher
      ≡ option_map (λ b. (goal.Brancher-dyn g (b.vtable, b.value)).rule b.value) l.fn.crew.brancher;
  fits : AllFit g.P.Propagator.fits l.program l.crew.watchers.list.items;
  all : AreAll (g.P.Propagator.problem l.program) (together (map g.P.Propagator.reasons l.crew.watchers.list.items));
  following : AreFollowing g.P.Propagator.in_step g.P.Propagator.watches l.program (g.P.Propagator.problem l.program).root l.crew.watchers;
  whole : l.crew.broken ≡ false;
  seats : l.turns.seats ≡ l.fn.schedule.seats;
  order : l.turns.order ≡ l.fn.schedule.order;
  turn : l.turns.turn ≡ l.crew.frontier.finished;
  within : l.crew.frontier.finished ≤ l.budget;
  root : l.crew.frontier.finished ≡ 0 → 0 < l.crew.frontier.open_count;
  calls : AllSucceeded (g.K.Sink.outcomes l.fn.sink) (g.K.Sink.outcomes l.sink);
  names : g.K.Sink.names l.sink ≡ g.K.Sink.names l.fn.sink;
  later : g.K.Sink.faults l.fn.sink ≤ g.K.Sink.faults l.sink;
}

abbrev pub decreases-nodes : goal.decreases-nodes
decreases-nodes g l = l.budget - l.crew.frontier.finished
