use Rattle.std.proofs.Common.{map, drop}
use Rattle.unfold_variables.specs.Pairs.{outcome_in}
use Rattle.sopl_scen.proofs.Totals.{IsTotal}
use Rattle.sopl_scen.proofs.products.total_of_outcomes.Given as goal

abbrev pub invariant-outcomes : goal.invariant-outcomes
invariant-outcomes l =
    IsTotal (map outcome_in l.outcomes) l.total.value l.outcome-index (map outcome_in (drop l.outcome-index l.outcomes))
