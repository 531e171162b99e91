use Rattle.std.proofs.Common.{map}
use Rattle.sopl_ast.specs.References.{now_of}
use Rattle.unfold_constants.specs.Here.{known_in}
use Rattle.unfold_tables.specs.Tables.{table_known}
use Rattle.compile_counts.proofs.Placed.{met_walked}
use Rattle.compile_counts.proofs.instance_counts.nodes_of_condition.Goals as goal

pub nodes_of-requires : goal.nodes_of-requires
nodes_of-requires c =
    record {
      walked = met_walked (table_known c.args.table.now) (known_in c.in_ok-known.known) (map now_of c.args.conditions.now) c.args.text c.args.env.now c.requires.met c.in_ok-known.ensures.known
          c.condition_at.result.now c.condition_at.ensures.at;
    }
