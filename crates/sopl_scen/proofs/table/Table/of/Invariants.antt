use Rattle.std.proofs.Common.{◌≡◌}
use Rattle.sopl_scen.specs.Tables.{all_rows, all_paths}
use Rattle.sopl_scen.proofs.table.Table.of.Given as goal

abbrev pub invariant-scenarios : goal.invariant-scenarios
invariant-scenarios l =
    record {
      values : l.table.values.items ≡ all_rows l.levels l.scenario;
      nodes : l.table.nodes.items ≡ all_paths l.levels l.scenario;
    }
