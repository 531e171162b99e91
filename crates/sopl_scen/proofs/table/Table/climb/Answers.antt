use Rattle.std.proofs.Common.{◌++◌}
use Rattle.sopl_scen.specs.Tables.{last_level, row_up, path_up}
use Rattle.sopl_scen.proofs.Climbing.{climb_more}
use Rattle.sopl_scen.proofs.table.Table.climb.Goals as goal

pub levels-preserved : goal.levels-preserved
levels-preserved c =
    climb_more c.args.levels.now (c.args.self.now.values.items ++ row_up c.args.levels.now (last_level c.args.levels.now) c.args.scenario)
    (c.args.self.now.nodes.items ++ path_up c.args.levels.now (last_level c.args.levels.now) c.args.scenario)
    c.levels.self.values.items c.step.new.self.values.items c.levels.self.nodes.items c.step.new.self.nodes.items c.levels.left c.levels.node c.in_ok-node.node
    c.index-levels-left.result c.index-levels-left.result c.requires.linked c.levels-test.true c.index-levels-left.is
    c.in_ok-node.ensures.parent c.in_ok-node.ensures.values c.in_ok-node.ensures.nodes c.levels.invariant
