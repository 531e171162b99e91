use Rattle.std.proofs.Common.{drop}
use Rattle.sopl_scen.proofs.CellSteps.{IsPlaced}
use Rattle.sopl_scen.proofs.cells.Cells.of.Given as goal

abbrev pub invariant-decisions : goal.invariant-decisions
invariant-decisions l = IsPlaced l.stages l.most l.decisions l.cells.places.items l.cells.total l.decision-index (drop l.decision-index l.decisions)
