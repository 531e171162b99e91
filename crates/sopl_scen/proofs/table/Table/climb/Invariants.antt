use Rattle.std.proofs.Common.{◌++◌}
use Rattle.sopl_scen.specs.Tables.{last_level, row_up, path_up}
use Rattle.sopl_scen.proofs.Climbing.{IsClimb}
use Rattle.sopl_scen.proofs.table.Table.climb.Given as goal

abbrev pub invariant-levels : goal.invariant-levels
invariant-levels l =
    IsClimb l.levels (l.initial.self.values.items ++ row_up l.levels (last_level l.levels) l.scenario)
    (l.initial.self.nodes.items ++ path_up l.levels (last_level l.levels) l.scenario) l.self.values.items l.self.nodes.items l.left l.node

abbrev pub decreases-levels : goal.decreases-levels
decreases-levels l = l.left
