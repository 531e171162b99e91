use Rattle.std.proofs.Common.{◌++◌, map, drop}
use Rattle.unfold_variables.specs.Pairs.{outcome_in}
use Rattle.sopl_scen.specs.Levels.{child_of}
use Rattle.sopl_scen.proofs.Building.{IsMade, children_left}
use Rattle.sopl_scen.proofs.levels.add_children.Given as goal

abbrev pub invariant-outcomes : goal.invariant-outcomes
invariant-outcomes l =
    IsMade (l.initial.level ++ map (child_of l.parent l.above) (map outcome_in l.outcomes)) l.level
    (children_left l.parent l.above (drop l.outcome-index l.outcomes))
