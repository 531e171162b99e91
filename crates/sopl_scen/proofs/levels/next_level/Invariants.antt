use Rattle.std.proofs.Common.{map, drop}
use Rattle.unfold_variables.specs.Pairs.{outcome_in}
use Rattle.sopl_scen.specs.Levels.{children}
use Rattle.sopl_scen.proofs.Building.{IsMade}
use Rattle.sopl_scen.proofs.levels.next_level.Given as goal

abbrev pub invariant-above : goal.invariant-above
invariant-above l =
    IsMade (children 0 l.above (map outcome_in l.outcomes)) l.level (children l.i (drop l.i l.above) (map outcome_in l.outcomes))
