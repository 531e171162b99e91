use Rattle.brancher.specs.Choices.{cell_width}
use Rattle.brancher.specs.Finding.{FindsMost}
use Rattle.brancher.proofs.finding.widest_cell.Given as goal

abbrev pub invariant-cells : goal.invariant-cells
invariant-cells l = FindsMost (cell_width l.lows l.highs) l.lows l.highs l.at l.found
