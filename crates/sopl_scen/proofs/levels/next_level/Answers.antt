use Rattle.std.proofs.Common.{get_or, map, pos}
use Rattle.std.proofs.lemmas.List.{get_or_default}
use Rattle.unfold_variables.specs.Pairs.{outcome_in}
use Rattle.sopl_scen.specs.declared.nodes.Node.{Node}
use Rattle.sopl_scen.specs.Levels.{children}
use Rattle.sopl_scen.proofs.Building.{part_light, part_made}
use Rattle.sopl_scen.proofs.levels.next_level.Goals as goal

abbrev none : Node
none = record { parent = 0; value = pos 0; weight = pos 0 }

pub add_children-requires : goal.add_children-requires
add_children-requires c =
    part_light (children 0 c.args.above.now (map outcome_in c.args.outcomes.now)) c.above.level c.args.above.now (map outcome_in c.args.outcomes.now) c.above.i
    (get_or c.args.above.now c.above.i none) c.above-test.true (get_or_default c.args.above.now c.above.i none (get_or c.args.above.now c.above.i none) c.above-test.true) c.above.invariant

pub above-preserved : goal.above-preserved
above-preserved c =
    part_made (children 0 c.args.above.now (map outcome_in c.args.outcomes.now)) c.above.level c.add_children.new.level c.args.above.now (map outcome_in c.args.outcomes.now) c.above.i
    (get_or c.args.above.now c.above.i none) c.above-test.true (get_or_default c.args.above.now c.above.i none (get_or c.args.above.now c.above.i none) c.above-test.true)
    c.in_ok-add_children.ensures c.above.invariant
