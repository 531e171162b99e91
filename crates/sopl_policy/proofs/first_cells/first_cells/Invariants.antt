use Rattle.std.proofs.Common.{◌≡◌, ◌++◌, drop}
use Rattle.sopl_policy.specs.Laid.{cells_end, laid_firsts}
use Rattle.sopl_policy.proofs.first_cells.first_cells.Given as goal

abbrev pub invariant-decisions : goal.invariant-decisions
invariant-decisions l =
    (l.found.items ++ laid_firsts l.tree l.first (drop l.decision-index l.decisions) ≡ laid_firsts l.tree 0 l.decisions)
    × (cells_end l.tree l.first (drop l.decision-index l.decisions) ≡ cells_end l.tree 0 l.decisions)
