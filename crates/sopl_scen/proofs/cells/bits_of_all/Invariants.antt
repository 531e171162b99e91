use Rattle.std.proofs.Common.{drop}
use Rattle.sopl_scen.proofs.CellSteps.{IsSummed}
use Rattle.sopl_scen.proofs.cells.bits_of_all.Given as goal

abbrev pub invariant-decisions : goal.invariant-decisions
invariant-decisions l = IsSummed l.stages l.decisions l.total.value l.decision-index (drop l.decision-index l.decisions)
