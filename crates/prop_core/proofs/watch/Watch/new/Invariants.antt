use Rattle.std.proofs.Common.{map, take}
use Rattle.prop_core.specs.Waking.{IsWatchOf}
use Rattle.prop_core.proofs.watch.Watch.new.Given as goal

abbrev pub invariant-members : goal.invariant-members
invariant-members g l = IsWatchOf (take l.at (map g.P.Propagator.watches l.list)) l.watch l.cells
