use Rattle.sopl_scen.specs.Tables.{last_level, row_up, path_up}
use Rattle.sopl_scen.proofs.Climbing.{pieces_more}
use Rattle.sopl_scen.proofs.table.Table.of.Goals as goal

pub scenarios-preserved : goal.scenarios-preserved
scenarios-preserved c =
    record {
      values =
          pieces_more (row_up c.args.levels.now (last_level c.args.levels.now)) c.scenarios.scenario c.scenarios.table.values.items c.climb.new.self.values.items
          c.scenarios.invariant.values c.in_ok-climb.ensures.values;
      nodes =
          pieces_more (path_up c.args.levels.now (last_level c.args.levels.now)) c.scenarios.scenario c.scenarios.table.nodes.items c.climb.new.self.nodes.items
          c.scenarios.invariant.nodes c.in_ok-climb.ensures.nodes;
    }
