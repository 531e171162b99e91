-- The loop has found the first mistake of the values and weights so far.
use Rattle.std.proofs.Common.{◌≡◌, drop}
use Rattle.sopl_ast.specs.Mistakes.{of_outcomes}
use Rattle.sopl_types.specs.Earliest.{earlier_of, earliest}
use Rattle.sopl_types.specs.Known.{known_in}
use Rattle.sopl_types.proofs.names.Names.outcomes.Given as goal

abbrev pub invariant-outcomes : goal.invariant-outcomes
invariant-outcomes l =
    earlier_of l.first (earliest (of_outcomes (known_in l.self) (drop l.outcome-index l.outcomes))) ≡ earliest (of_outcomes (known_in l.self) l.outcomes)
